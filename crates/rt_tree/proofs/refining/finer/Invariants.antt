use Rattle.rt_tree.specs.Partitions.{number_at, row_at}
use Rattle.rt_tree.proofs.Firsts.{AreFirsts}
use Rattle.rt_tree.proofs.refining.finer.Given as goal

abbrev pub invariant-loop-x : goal.invariant-loop-x
invariant-loop-x l = AreFirsts (number_at l.rows) (row_at l.class l.nodes) l.finer.items l.x
