use Rattle.rt_named.specs.Nodes.{flips_at}
use Rattle.rt_named.proofs.Noding.{AreSaidTo}
use Rattle.rt_named.proofs.nodes.flips.Given as goal

abbrev pub invariant-loop-node : goal.invariant-loop-node
invariant-loop-node l = AreSaidTo (flips_at l.shape) l.nodes l.node-index l.flips.items
