use Rattle.rt_tree.specs.Inside.Splits.{AreIntoTo}
use Rattle.rt_tree.proofs.links.into_of.Given as goal

abbrev pub invariant-loop-j : goal.invariant-loop-j
invariant-loop-j l = AreIntoTo l.count l.links l.j l.into.items
