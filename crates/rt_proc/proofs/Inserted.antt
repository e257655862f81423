-- Places inserted one after the other.
use Rattle.std.proofs.Common.{◌≡◌, zero, suc, ◌⊎◌, ◌↔◌, inl, inr, List, [], ◌∷◌, ◌++◌, Contains, refl, sym, ap, subst, ◌∙◌, arith, append_assoc, append-nil}
use Rattle.std.specs.List.{list_any}
use Rattle.std.proofs.lemmas.List.Elements.{Contains-append_left, Contains-push, Contains-push_cases}
use Rattle.std.proofs.lemmas.Map.Views.{Contains-from_any}
use Rattle.rt_control.specs.Tables.{with_place, with_places}
use Rattle.rt_link.specs.Effects.{is_place}
use Rattle.rt_link.specs.declared.place.Place.{Place}
use Rattle.rt_base.proofs.Lists.{Contains-none, Contains-here, Contains-there, Contains-cons_cases}
use Rattle.std.proofs.lemmas.Bool.{cases_Bool}
use Rattle.rt_link.proofs.Held.{is_place-same}

-- a place that is added is there
Contains-with_place : (ks : List Place) (k : Place) → Contains (with_place ks k) k
Contains-with_place ks k = elim (cases_Bool (list_any (is_place k) ks)) [
  | inl there ↦ rw there (Contains-from_any is_place-same k ks there)
  | inr new ↦ rw new (Contains-push ks k)
]

-- the places that were there stay at the begin
insert-front : (ks : List Place) (k : Place) → (rest : List Place) × (with_place ks k ≡ ks ++ rest)
insert-front ks k = elim (cases_Bool (list_any (is_place k) ks)) [
  | inl there ↦ ([], rw (there, append-nil) refl)
  | inr new ↦ (k ∷ [], rw new refl)
]

pub inserted-front : (xs ks : List Place) → (rest : List Place) × (with_places ks xs ≡ ks ++ rest)
inserted-front [] ks = ([], rw append-nil refl)
inserted-front (x ∷ xs) ks =
    let one = insert-front ks x in
    let more = inserted-front xs (with_place ks x) in
    (one.0 ++ more.0, more.1 ∙ ap (λ (front : List Place). front ++ more.0) one.1 ∙ rw append_assoc refl)

insert-source : (ks : List Place) (k p : Place) → Contains (with_place ks k) p → Contains ks p ⊎ (k ≡ p)
insert-source ks k p h = elim (cases_Bool (list_any (is_place k) ks)) [
  | inl there ↦ inl (rw there at h)
  | inr new ↦ Contains-push_cases ks k p (rw new at h)
]

-- each place was there or was inserted
pub inserted-source : (xs ks : List Place) (p : Place) → Contains (with_places ks xs) p → Contains ks p ⊎ Contains xs p
inserted-source [] ks p h = inl h
inserted-source (x ∷ xs) ks p h = elim (inserted-source xs (with_place ks x) p h) [
  | inl first ↦ elim (insert-source ks x p first) [
    | inl old ↦ inl old
    | inr e ↦ inr (subst (Contains (x ∷ xs)) e (Contains-here x xs))
  ]
  | inr later ↦ inr (Contains-there x xs p later)
]

-- the places that were there stay
pub inserted-stays : (xs ks : List Place) (p : Place) → Contains ks p → Contains (with_places ks xs) p
inserted-stays xs ks p h =
    let front = inserted-front xs ks in
    subst (λ (places : List Place). Contains places p) (sym front.1) (Contains-append_left ks front.0 p h)

-- each place that is inserted is there
pub inserted-has : (xs ks : List Place) (p : Place) → Contains xs p → Contains (with_places ks xs) p
inserted-has [] ks p h = absurd (Contains-none p h)
inserted-has (x ∷ xs) ks p h = elim (Contains-cons_cases x xs p h) [
  | inl e ↦ inserted-stays xs (with_place ks x) p (subst (Contains (with_place ks x)) e (Contains-with_place ks x))
  | inr later ↦ inserted-has xs (with_place ks x) p later
]

-- places that are inserted among none
pub inserted-all : (ks xs found : List Place) → ks ≡ [] → found ≡ with_places ks xs → (p : Place) → Contains found p ↔ Contains xs p
inserted-all ks xs found none is p = (
  (λ h. elim (inserted-source xs ks p (subst (λ (places : List Place). Contains places p) is h)) [
    | inl old ↦ absurd (Contains-none p (subst (λ (places : List Place). Contains places p) none old))
    | inr new ↦ new
  ]),
  λ h. subst (λ (places : List Place). Contains places p) (sym is) (inserted-has xs ks p h),
)
