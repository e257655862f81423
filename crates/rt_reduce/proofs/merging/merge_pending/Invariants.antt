use Rattle.std.specs.BTreeSet.{btree_set_len, contains}
use Rattle.std.specs.Ordering.{nat_cmp}
use Rattle.rt_reduce.proofs.Going.{IsGoing}
use Rattle.rt_reduce.proofs.merging.merge_pending.Given as goal

abbrev pub invariant-loop-existential : goal.invariant-loop-existential
invariant-loop-existential l =
    IsGoing l.fn.lines l.comparison.named l.equals l.numbers l.now l.sides.items (contains nat_cmp l.pending)

abbrev pub decreases-loop-existential : goal.decreases-loop-existential
decreases-loop-existential l = btree_set_len l.pending
