use Rattle.std.proofs.Common.{◌≡◌, fold}
use Rattle.rt_solve.specs.Solved.{with_scheme}
use Rattle.rt_solve.proofs.run.set_schemes.Given as goal

abbrev pub invariant-loop-scheme : goal.invariant-loop-scheme
invariant-loop-scheme l = l.schemes ≡ fold with_scheme l.initial.schemes l.yielded
