-- Look-ups in ascending lists of places.
use Rattle.std.proofs.Common.{◌≡◌, ℕ, zero, suc, ◌+◌, ◌<◌, inl, inr, true, false, Some, None, Err, List, [], ◌∷◌, length, get_or, refl, sym, subst, ◌∙◌, arith, add-one}
use Rattle.std.specs.declared.cmp.Ordering.TheVariants.{Less, Equal, Greater}
use Rattle.std.specs.List.{AllWithin, HoldsAt}
use Rattle.std.specs.List.Sorted.{IsNonDecreasingBy, IsBinarySearchResult}
use Rattle.std.specs.Ordering.{nat_cmp, ordering_index, is_lt}
use Rattle.std.proofs.lemmas.Bool.{cases_lt, cases_Bool}
use Rattle.std.proofs.lemmas.Bool.Decides.{nat_tests}
use Rattle.std.proofs.lemmas.List.Folds.{list_any_at}
use Rattle.std.proofs.lemmas.List.Sorted.{searchable_from_sorted}
use Rattle.rt_link.specs.Effects.{is_place}
use Rattle.rt_link.specs.declared.place.Place.{Place}
use Rattle.rt_proc.specs.Order.{IsBelow, AreAscending, place_cmp}
use Rattle.rt_proc.specs.Sites.{is_entry, number_of, IsIndex}
use Rattle.rt_proc.proofs.PlaceLaws.{place_cmp-exact, place_cmp-total, IsBelow-irreflexive}
use Rattle.rt_link.proofs.Held.{is_place-same}
use Rattle.rt_link.proofs.Naming.{is_place-self}

nat_cmp-greater : (a b : ℕ) → a < b → nat_cmp b a ≡ Greater
nat_cmp-greater a b h = grind (arith, nat_tests)

nat_cmp-same : (a b : ℕ) → a ≡ b → nat_cmp b a ≡ Equal
nat_cmp-same a b h = grind (arith, nat_tests)

-- what comes before a place isn't after it
not_after : (p q : Place) → IsBelow p q → is_lt (place_cmp q p) ≡ false
not_after p q (inl h) = rw (nat_cmp-greater p.section q.section h) refl
not_after p q (inr h) = rw (nat_cmp-same p.section q.section h.0, nat_cmp-greater p.offset q.offset h.1) refl

-- the place of another list is apart
pub is_place-below : (p q : Place) → IsBelow p q → is_place p q ≡ false
is_place-below p q below = elim (cases_Bool (is_place p q)) [
  | inl same ↦ absurd (IsBelow-irreflexive q (subst (λ (x : Place). IsBelow x q) (is_place-same p q same) below))
  | inr apart ↦ apart
]

pub AreAscending-tail : (p : Place) (places : List Place) → AreAscending (p ∷ places) → AreAscending places
AreAscending-tail p places ascending = λ i j d less within. ascending (suc i) (suc j) d (omega arith) (omega arith)

searchable : (places : List Place) (p : Place) → AreAscending places → IsNonDecreasingBy (λ q. ordering_index (place_cmp q p)) places
searchable places p ascending =
    searchable_from_sorted place_cmp-total (λ (q : Place). q) places p (λ k d low high. not_after (get_or places k d) (get_or places (k + 1) d) (ascending k (k + 1) d (omega arith) high))

number_of-at : (places : List Place) (p : Place) (i : ℕ) → AreAscending places → i < length places → get_or places i p ≡ p → number_of places p ≡ i
number_of-at [] p i ascending h e = absurd (omega arith)
number_of-at (q ∷ qs) p zero ascending h e = rw (e, is_place-self p) refl
number_of-at (q ∷ qs) p (suc i) ascending h e =
    let below : IsBelow q p = subst (λ (x : Place). IsBelow q x) e (ascending 0 (suc i) p (omega arith) h) in
    let rest : number_of qs p ≡ i = number_of-at qs p i (AreAscending-tail q qs ascending) (omega arith) e in
    rw (is_place-below q p below, rest) (add-one i)

number_of-none : (places : List Place) (p : Place) → is_entry places p ≡ false → number_of places p ≡ length places
number_of-none [] p e = refl
number_of-none (q ∷ qs) p e = elim (cases_Bool (is_place q p)) [
  | inl same ↦ let f : true ≡ false = rw same at e in cc
  | inr apart ↦ let rest : is_entry qs p ≡ false = rw apart at e in rw (apart, number_of-none qs p rest) (add-one (length qs))
]

none-found : (places : List Place) (p : Place) → ((k : ℕ) → k < length places → get_or places k p ≡ p → ⊥) → is_entry places p ≡ false
none-found [] p h = refl
none-found (q ∷ qs) p h = elim (cases_Bool (is_place q p)) [
  | inl same ↦ absurd (h 0 (omega arith) (is_place-same q p same))
  | inr apart ↦ rw apart (none-found qs p (λ k within e. h (suc k) (omega arith) e))
]

-- what a binary search finds
pub found : (places : List Place) (p : Place) (i : ℕ) → AreAscending places → i < length places → HoldsAt (λ q. place_cmp q p ≡ Equal) places i → IsIndex places p (Some i)
found places p i ascending within at =
    let here : get_or places i p ≡ p = place_cmp-exact (get_or places i p) p (at p) in
    record {
      found = sym (list_any_at (λ q. is_place q p) places i p within (rw here (is_place-self p)));
      number = sym (number_of-at places p i ascending within here);
    }

equal-self : (p : Place) → place_cmp p p ≡ Equal
equal-self p = rw (nat_cmp-same p.section p.section refl, nat_cmp-same p.offset p.offset refl) refl

-- what a binary search doesn't find
module _ (places : List Place) (p : Place) (i : ℕ) (before : AllWithin (λ q. place_cmp q p ≡ Less) places 0 i) (after : AllWithin (λ q. place_cmp q p ≡ Greater) places i (length places)) where
  apart : (k : ℕ) → k < length places → get_or places k p ≡ p → ⊥
  apart k within e = elim (cases_lt k i) [
    | inl less ↦ let found : Equal ≡ Less = sym (equal-self p) ∙ rw e at (before k p (omega arith) less) in cc
    | inr more ↦ let found : Equal ≡ Greater = sym (equal-self p) ∙ rw e at (after k p more within) in cc
  ]

pub missed : (places : List Place) (p : Place) (i : ℕ) → AreAscending places → IsBinarySearchResult (λ q. place_cmp q p) places (Err i) → IsIndex places p None
missed places p i ascending answer =
    let point = answer (searchable places p ascending) in
    let none : is_entry places p ≡ false = none-found places p (apart places p i point.0 point.1) in
    record { found = sym none; number = sym (number_of-none places p none) }
