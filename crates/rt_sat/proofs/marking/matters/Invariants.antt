use Rattle.rt_named.proofs.Noding.{AreSaidTo}
use Rattle.rt_sat.specs.Mattering.{mark_at}
use Rattle.rt_sat.proofs.marking.matters.Given as goal

abbrev pub invariant-loop-node : goal.invariant-loop-node
invariant-loop-node l = AreSaidTo (mark_at l.marks) l.nodes l.node-index l.matters.items
