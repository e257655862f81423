use Rattle.rt_ways.specs.Inside.Frames.{AreNodes}
use Rattle.rt_ways.proofs.nodes.nodes_of.Given as goal

abbrev pub invariant-loop-number : goal.invariant-loop-number
invariant-loop-number l = AreNodes l.shape l.named l.number l.nodes.items
