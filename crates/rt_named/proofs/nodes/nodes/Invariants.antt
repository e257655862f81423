use Rattle.rt_named.proofs.Noding.{AreNodesTo}
use Rattle.rt_named.proofs.nodes.nodes.Given as goal

abbrev pub invariant-loop-number : goal.invariant-loop-number
invariant-loop-number l = AreNodesTo l.shape l.named l.number l.nodes.items
