use Rattle.std.specs.BTreeMap.{get}
use Rattle.std.specs.BTreeSet.{btree_set_len, contains}
use Rattle.std.specs.Ordering.{nat_cmp}
use Rattle.rt_refine.specs.Groups.{IsNamed}
use Rattle.rt_refine.specs.Numbers.{HasNumber}
use Rattle.rt_refine.proofs.Leading.{AreLed}
use Rattle.rt_twins.specs.Inside.Leading.{lead_key}
use Rattle.rt_twins.proofs.leading.leading_classes.Given as goal

abbrev pub invariant-loop-existential : goal.invariant-loop-existential
invariant-loop-existential l =
    AreLed (λ n. lead_key (contains nat_cmp l.out n) n) (IsNamed l.lines) (contains nat_cmp l.pending) (HasNumber nat_cmp l.leaders)
    (get nat_cmp l.classes)

abbrev pub decreases-loop-existential : goal.decreases-loop-existential
decreases-loop-existential l = btree_set_len l.pending
