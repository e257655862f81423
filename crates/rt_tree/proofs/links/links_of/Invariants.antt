use Rattle.std.proofs.Common.{◌≡◌, ◌++◌, drop}
use Rattle.rt_tree.specs.Inside.Splits.{links_from, links_of}
use Rattle.rt_tree.proofs.links.links_of.Given as goal

abbrev pub invariant-loop-x : goal.invariant-loop-x
invariant-loop-x l = l.links.items ++ links_from l.x (drop l.x l.nodes) ≡ links_of l.nodes
