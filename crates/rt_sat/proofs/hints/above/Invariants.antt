use Rattle.std.proofs.Common.{◌≡◌, length}
use Rattle.rt_sat.proofs.hints.above.Given as goal

abbrev pub invariant-loop-node : goal.invariant-loop-node
invariant-loop-node l = length l.above.items ≡ l.node-index
