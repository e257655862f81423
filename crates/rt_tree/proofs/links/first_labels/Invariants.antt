use Rattle.rt_tree.specs.Partitions.{number_at}
use Rattle.rt_tree.proofs.Firsts.{AreFirsts}
use Rattle.rt_tree.proofs.EdgeLists.{label_row_at}
use Rattle.rt_tree.proofs.links.first_labels.Given as goal

abbrev pub invariant-loop-j : goal.invariant-loop-j
invariant-loop-j l = AreFirsts (number_at l.rows) (label_row_at l.links) l.first.items l.j
