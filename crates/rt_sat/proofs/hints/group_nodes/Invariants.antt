use Rattle.std.proofs.Common.{◌≡◌, length}
use Rattle.rt_sat.proofs.hints.group_nodes.Given as goal

abbrev pub invariant-loop-number : goal.invariant-loop-number
invariant-loop-number l = length l.nodes.items ≡ l.count

abbrev pub invariant-loop-kid : goal.invariant-loop-kid
invariant-loop-kid l = length l.nodes.items ≡ l.count
