-- Places: which are one, and which comes first.
use Rattle.std.proofs.Common.{◌≡◌, ℕ, ◌<◌, ◌⊎◌, inl, inr, true, List, Contains, ◌↔◌, refl, arith}
use Rattle.std.specs.declared.cmp.Ordering.{Ordering}
use Rattle.std.specs.declared.cmp.Ordering.TheVariants.{Less, Equal, Greater}
use Rattle.std.specs.BTreeSet.{BTreeSet, IsOrdered, IsFromIterResult}
use Rattle.std.specs.Cmp.{IsEquivalence, IsTotalOrder}
use Rattle.std.proofs.lemmas.Map.Lookups.{CmpEqualImpliesEq}
use Rattle.std.specs.Ordering.{nat_cmp, ordering_then}
use Rattle.std.proofs.lemmas.Bool.Decides.{nat_tests}
use Rattle.std.proofs.lemmas.Map.Keys.{Less-from_sorted}
use Rattle.std.proofs.lemmas.Map.Views.{btree_set_contains_iff, btree_set_contains_from_list}
use Rattle.rt_link.specs.Effects.{is_place}
use Rattle.rt_link.specs.declared.place.Place.{Place}
use Rattle.rt_link.specs.contracts.place.PlaceEq.TheImpl.Laws as eq_laws
use Rattle.rt_link.specs.contracts.place.PlaceOrd.TheImpl.Laws as ord_laws
use Rattle.rt_elf.proofs.Booleans.{eqb-is}
use Rattle.rt_proc.specs.Order.{IsBelow, AreAscending, place_cmp}
use Rattle.rt_base.proofs.Numbers.{nat_cmp-less, nat_cmp-equal, then-equal}
use Rattle.std.proofs.lemmas.Bool.{and_parts}
use Rattle.rt_link.proofs.Held.{place-same}

pub is_place-laws : IsEquivalence is_place
is_place-laws = eq_laws.laws-law

pub place_cmp-total : IsTotalOrder place_cmp
place_cmp-total = ord_laws.total-law

then-less : (a b : Ordering) → ordering_then a b ≡ Less → (a ≡ Less) ⊎ ((a ≡ Equal) × (b ≡ Less))
then-less Less b e = inl refl
then-less Equal b e = inr (refl, e)
then-less Greater b e = cc

pub IsBelow-from_less : (p q : Place) → place_cmp p q ≡ Less → IsBelow p q
IsBelow-from_less p q e = elim (then-less (nat_cmp p.section q.section) (nat_cmp p.offset q.offset) e) [
  | inl f ↦ inl (nat_cmp-less p.section q.section f)
  | inr f ↦ inr (nat_cmp-equal p.section q.section f.0, nat_cmp-less p.offset q.offset f.1)
]

pub place_cmp-exact : CmpEqualImpliesEq place_cmp
place_cmp-exact p q e =
    let both = then-equal (nat_cmp p.section q.section) (nat_cmp p.offset q.offset) e in
    place-same p.section q.section p.offset q.offset (nat_cmp-equal p.section q.section both.0) (nat_cmp-equal p.offset q.offset both.1)

-- no place comes before itself
pub IsBelow-irreflexive : (p : Place) → IsBelow p p → ⊥
IsBelow-irreflexive p (inl h) = absurd (omega arith)
IsBelow-irreflexive p (inr h) = let lt = h.1 in absurd (omega arith)

-- the keys of a set rise
pub AreAscending-keys : (set : BTreeSet Place) → IsOrdered place_cmp set → AreAscending set.keys
AreAscending-keys set ordered = λ i j d less within. IsBelow-from_less _ _ (Less-from_sorted place_cmp set.keys i j d ordered less within)

-- a set of a list's places has them
pub Contains-keys : (places : List Place) (set : BTreeSet Place) → IsFromIterResult place_cmp places set → (p : Place) → Contains set.keys p ↔ Contains places p
Contains-keys places set made p =
    let in_set = btree_set_contains_iff place_cmp-total place_cmp-exact set p in
    let in_list = btree_set_contains_from_list place_cmp-total place_cmp-exact places set made p in
    (λ h. in_list.0 (in_set.1 h), λ h. in_set.0 (in_list.1 h))
