use Rattle.std.proofs.Common.{◌≡◌, map}
use Rattle.rt_run.specs.Globals.{global_of}
use Rattle.rt_run.proofs.globals.named.Given as goal

abbrev pub invariant-loop-number : goal.invariant-loop-number
invariant-loop-number l = l.globals ≡ map (global_of l.object) l.yielded
