use Rattle.std.proofs.Common.{true}
use Rattle.rt_outline.specs.Arcs.{Leads}
use Rattle.rt_outline.specs.Together.{ArePairsBelow}
use Rattle.rt_outline.proofs.classes.open_pairs.Given as goal

abbrev pub invariant-loop-node : goal.invariant-loop-node
invariant-loop-node l = ArePairsBelow (Leads l.arcs l.stands true) l.node l.pairs.items
