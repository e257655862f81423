-- Places, each once.
use Rattle.std.proofs.Common.{◌≡◌, ℕ, ◌+◌, ◌<◌, ◌==◌, inl, inr, ◌||◌, ◌&&◌, cond, not, Bool, true, false, List, [], ◌∷◌, ◌++◌, All, drop, length, get_or, refl, sym, ap, subst, ◌∙◌, arith, add-one}
use Rattle.std.specs.declared.cmp.Ordering.{Ordering}
use Rattle.std.specs.declared.cmp.Ordering.TheVariants.{Less, Equal, Greater}
use Rattle.std.specs.Bool.{OnFalse}
use Rattle.std.specs.BTreeSet.{BTreeSet, contains, Updates}
use Rattle.std.specs.List.{list_any}
use Rattle.std.specs.Ordering.{nat_cmp, ordering_then, is_eq}
use Rattle.std.proofs.lemmas.Bool.Decides.{nat_tests}
use Rattle.std.proofs.Math.Seq.{drop-cons}
use Rattle.std.proofs.lemmas.List.Elements.{All-push, All-head, All-tail}
use Rattle.std.proofs.lemmas.List.Folds.{list_any-append}
use Rattle.rt_link.specs.declared.place.Place.{Place}
use Rattle.rt_link.specs.Effects.{is_place}
use Rattle.rt_link.specs.Links.{place_cmp}
use Rattle.rt_control.specs.Tables.{with_place, with_places}
use Rattle.std.proofs.lemmas.Bool.{cases_Bool}
use Rattle.rt_link.proofs.Naming.{cond-or}

-- a set has what a list has
abbrev pub HasSame : BTreeSet Place → List Place → Type 0
HasSame seen once = (q : Place) → contains place_cmp seen q ≡ list_any (is_place q) once

then_equal : (a b : Ordering) → is_eq (ordering_then a b) ≡ (is_eq a && is_eq b)
then_equal Less b = refl
then_equal Equal b = refl
then_equal Greater b = refl

nat_equal : (m n : ℕ) → is_eq (nat_cmp m n) ≡ (n == m)
nat_equal m n = grind (arith, nat_tests)

both_same : (a b c d : Bool) → a ≡ b → c ≡ d → (a && c) ≡ (b && d)
both_same a b c d e f = rw (e, f) refl

-- the order has two places equal where they are one
same_test : (p q : Place) → is_eq (place_cmp p q) ≡ is_place q p
same_test p q =
    then_equal (nat_cmp p.section q.section) (nat_cmp p.offset q.offset)
    ∙ both_same _ _ _ _ (nat_equal p.section q.section) (nat_equal p.offset q.offset)

cond_same : (a b x y : Bool) → a ≡ b → x ≡ y → cond a true x ≡ cond b true y
cond_same a b x y e f = rw (e, f) refl

-- a place that joins the set joins the list at its end
pub HasSame-added : (seen next : BTreeSet Place) (once : List Place) (place : Place) → HasSame seen once → Updates place_cmp seen next place true → HasSame next (once ++ place ∷ [])
HasSame-added seen next once place same updates q =
    updates.0 q ∙ cond_same _ _ _ _ (same_test place q) (same q) ∙ cond-or (is_place q place) (list_any (is_place q) once)
    ∙ sym (list_any-append (is_place q) once (place ∷ []))

-- one that is there leaves both as they are
pub HasSame-kept : (seen next : BTreeSet Place) (once : List Place) → HasSame seen once → next.keys ≡ seen.keys → HasSame next once
HasSame-kept seen next once same e q = ap (λ (keys : List Place). list_any (λ (k : Place). is_eq (place_cmp q k)) keys) e ∙ same q

pub HasSame-empty : (seen : BTreeSet Place) → seen.keys ≡ [] → HasSame seen []
HasSame-empty seen e q = ap (λ (keys : List Place). list_any (λ (k : Place). is_eq (place_cmp q k)) keys) e

-- the next of some places joins those that were kept
pub with_places-next : (kept places : List Place) (i : ℕ) (d : Place) → i < length places
    → with_places kept (drop i places) ≡ with_places (with_place kept (get_or places i d)) (drop (i + 1) places)
with_places-next kept places i d lt = ap (λ (rest : List Place). with_places kept rest) (drop-cons places i d lt) ∙ ap (λ (n : ℕ). with_places (with_place kept (get_or places i d)) (drop n places)) (sym (add-one i))

pub with_place-new : (kept : List Place) (place : Place) → list_any (is_place place) kept ≡ false → with_place kept place ≡ kept ++ place ∷ []
with_place-new kept place e = rw e refl

pub with_place-old : (kept : List Place) (place : Place) → list_any (is_place place) kept ≡ true → with_place kept place ≡ kept
with_place-old kept place e = rw e refl

-- what is left of the places, when the next has joined those that were kept
pub rest_next : (once more places all : List Place) (i : ℕ) (d : Place) → i < length places → more ≡ with_place once (get_or places i d) → with_places once (drop i places) ≡ all
    → with_places more (drop (i + 1) places) ≡ all
rest_next once more places all i d lt e f = ap (λ (kept : List Place). with_places kept (drop (i + 1) places)) e ∙ sym (with_places-next once places i d lt) ∙ f

with_place-all : (P : Place → Type 0) (kept : List Place) (place : Place) → All P kept → P place → All P (with_place kept place)
with_place-all P kept place h p = elim (cases_Bool (list_any (is_place place) kept)) [ inl e ↦ rw e h | inr e ↦ rw e (All-push P kept place h p) ]

-- what holds of all places holds of them once
pub with_places-all : (P : Place → Type 0) (kept places : List Place) → All P kept → All P places → All P (with_places kept places)
with_places-all P kept [] h all = h
with_places-all P kept (place ∷ places) h all =
    with_places-all P (with_place kept place) places (with_place-all P kept place h (All-head P place places all)) (All-tail P place places all)

-- What an insertion into the set answers.

pub was_absent : (added here : Bool) → added ≡ not here → added ≡ true → here ≡ false
was_absent added true e f = let no : true ≡ false = sym f ∙ e in cc
was_absent added false e f = refl

pub was_there : (added here : Bool) → added ≡ not here → added ≡ false → here ≡ true
was_there added true e f = refl
was_there added false e f = let no : true ≡ false = sym e ∙ f in cc

pub as_before : (added : Bool) (P : Type 0) → OnFalse added P → added ≡ false → P
as_before added P h e = subst (λ (b : Bool). OnFalse b P) e h
