use Rattle.std.proofs.Common.{◌≡◌, map, take}
use Rattle.rt_run.proofs.Placing.{scheme_lines}
use Rattle.rt_run.proofs.analysis.Analysis.scheme_lists.Given as goal

abbrev pub invariant-loop-number : goal.invariant-loop-number
invariant-loop-number l = l.lists.items ≡ map scheme_lines (take l.number l.self.schemes)
