use Rattle.std.proofs.Common.{◌≡◌, ℕ, ◌⊎◌, Contains, take, true}
use Rattle.std.specs.BTreeMap.{get}
use Rattle.std.specs.BTreeSet.{contains}
use Rattle.std.specs.Ordering.{nat_cmp}
use Rattle.rt_refine.specs.Groups.{class_of}
use Rattle.rt_refine.proofs.sharing.are_moved.Given as goal

abbrev pub invariant-loop-existential : goal.invariant-loop-existential
invariant-loop-existential l = (n : ℕ) → Contains (take l.existential-index l.named) n →
    (contains nat_cmp l.shared n ≡ true) ⊎ (class_of (get nat_cmp l.classes) n ≡ n)
