use Rattle.std.proofs.Common.{◌≡◌, ◌≢◌, ℕ, Some, true, false}
use Rattle.std.specs.BTreeMap.{get}
use Rattle.std.specs.BTreeSet.{btree_set_len, contains}
use Rattle.std.specs.Ordering.{nat_cmp}
use Rattle.rt_polar.specs.Index.{has}
use Rattle.rt_refine.specs.Groups.{class_of}
use Rattle.rt_refine.specs.Numbers.{HasNumber}
use Rattle.rt_refine.proofs.Leading.{AreLed}
use Rattle.rt_refine.specs.Numbers.{use_key}
use Rattle.rt_refine.proofs.splitting.regrouped.Given as goal

abbrev pub invariant-loop-existential : goal.invariant-loop-existential
invariant-loop-existential l = record {
  led : AreLed (use_key (class_of (get nat_cmp l.classes)) l.fn.bound (has l.index)) (λ n. contains nat_cmp l.fn.shared n ≡ true)
      (contains nat_cmp l.pending)
      (HasNumber nat_cmp l.leaders) (get nat_cmp l.parts);
  same : l.changed ≡ false → (n v : ℕ) → get nat_cmp l.parts n ≡ Some v → v ≡ class_of (get nat_cmp l.classes) n;
  differs : l.changed ≡ true → (n : ℕ) × (v : ℕ) × (get nat_cmp l.parts n ≡ Some v) × (v ≢ class_of (get nat_cmp l.classes) n);
}

abbrev pub decreases-loop-existential : goal.decreases-loop-existential
decreases-loop-existential l = btree_set_len l.pending
