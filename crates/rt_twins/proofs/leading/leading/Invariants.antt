use Rattle.std.proofs.Common.{◌+◌, ◌*◌}
use Rattle.std.specs.BTreeSet.{btree_set_len, contains}
use Rattle.std.specs.Ordering.{nat_cmp}
use Rattle.rt_polar.specs.Index.{has}
use Rattle.rt_twins.proofs.Following.{AreFollowed}
use Rattle.rt_twins.proofs.leading.leading.Given as goal

abbrev pub invariant-loop-least : goal.invariant-loop-least
invariant-loop-least l = AreFollowed l.fn.sign l.lines (contains nat_cmp l.out) (contains nat_cmp l.pending) (has l.arrows)

abbrev pub decreases-loop-least : goal.decreases-loop-least
decreases-loop-least l = btree_set_len l.pending + btree_set_len l.arrows * 2
