-- The last component of a walk made a class.
use Rattle.std.proofs.Common.{◌≡◌, ℕ, ◌+◌, ◌<◌, ◌≤◌, ◌⊎◌, inl, inr, List, length, slice_index, set, refl, sym, ap, ◌∙◌, arith}
use Rattle.std.proofs.lemmas.Bool.{cases_eq, cases_lt}
use Rattle.std.proofs.lemmas.List.{get_or-set_same, get_or-set_other, length-set}
use Rattle.rt_components.specs.declared.walk.State.{State}
use Rattle.rt_components.specs.declared.walk.State.TheVariants.{Unseen, OnPath, InClass}
use Rattle.rt_components.specs.Inside.Walks.{state_of, AreOnPath, IsClosedFrom}
use Rattle.rt_components.proofs.Entering.{unseen_place, place_class, same_place}

-- so far as to some place
pub record IsClosedTo (old new : List State) (place upto class : ℕ) : Type 0 where
  pub each : length new ≡ length old
  pub off : (a i : ℕ) → state_of old a ≡ OnPath i → place ≤ i → i < upto → state_of new a ≡ InClass class
  pub on : (a i : ℕ) → state_of old a ≡ OnPath i → (i < place) ⊎ (upto ≤ i) → state_of new a ≡ OnPath i
  pub whole : (a g : ℕ) → state_of old a ≡ InClass g → state_of new a ≡ InClass g
  pub unseen : (a : ℕ) → state_of old a ≡ Unseen → state_of new a ≡ Unseen

pub closed_none : (old : List State) (place class upto : ℕ) → upto ≡ place → IsClosedTo old old place upto class
closed_none old place class upto same = record {
  each = refl;
  off = λ a i e le less. absurd (omega arith);
  on = λ a i e h. e;
  whole = λ a g e. e;
  unseen = λ a e. e;
}

pub closed_more : (old new : List State) (path : List ℕ) (place upto class : ℕ) → AreOnPath old path → IsClosedTo old new place upto class → place ≤ upto → upto < length path → (node : ℕ) → node ≡ slice_index path upto → (next : ℕ) → next ≡ upto + 1 →
    IsClosedTo old (set new node (InClass class)) place next class
closed_more old new path place upto class are to from within node is next more = record {
  each = length-set new node (InClass class) ∙ to.each;
  off = λ a i e le less. off a i e le less (cases_eq a node);
  on = λ a i e h. other a (OnPath i) (λ f. apart i a e f h) (to.on a i e (earlier i h));
  whole = λ a g e. other a (InClass g) (λ f. place_class upto g (sym placed ∙ sym (ap (state_of old) f) ∙ e)) (to.whole a g e);
  unseen = λ a e. other a Unseen (λ f. unseen_place upto (sym e ∙ ap (state_of old) f ∙ placed)) (to.unseen a e);
}
  where
    there : (slice_index path upto < length old) × (state_of old (slice_index path upto) ≡ OnPath upto)
    there = are.node_at upto within

    placed : state_of old node ≡ OnPath upto
    placed = ap (state_of old) is ∙ there.1

    less_new : node < length new
    less_new = let in_old : slice_index path upto < length old = there.0 in omega (arith, to.each, is)

    other : (a : ℕ) (s : State) → (a ≡ node → ⊥) → state_of new a ≡ s → state_of (set new node (InClass class)) a ≡ s
    other a s ne e = get_or-set_other new node a (InClass class) Unseen ne ∙ e

    earlier : (i : ℕ) → (i < place) ⊎ (next ≤ i) → (i < place) ⊎ (upto ≤ i)
    earlier i (inl h) = inl h
    earlier i (inr h) = inr (omega arith)

    apart : (i a : ℕ) → state_of old a ≡ OnPath i → a ≡ node → (i < place) ⊎ (next ≤ i) → ⊥
    apart i a e f h = by h (same_place i upto (sym e ∙ ap (state_of old) f ∙ placed))
      where
        by : (i < place) ⊎ (next ≤ i) → i ≡ upto → ⊥
        by (inl less) same = omega arith
        by (inr above) same = omega arith

    off : (a i : ℕ) → state_of old a ≡ OnPath i → place ≤ i → i < next → (a ≡ node) ⊎ (a ≡ node → ⊥) → state_of (set new node (InClass class)) a ≡ InClass class
    off a i e le less (inl f) = ap (state_of (set new node (InClass class))) f ∙ get_or-set_same new node (InClass class) Unseen less_new
    off a i e le less (inr ne) = other a (InClass class) ne (to.off a i e le (by (cases_lt i upto)))
      where
        by : (i < upto) ⊎ (upto ≤ i) → i < upto
        by (inl h) = h
        by (inr h) =
            let at : i ≡ upto = omega arith in
            absurd (ne (sym (are.place_of a i e).1 ∙ ap (slice_index path) at ∙ sym is))

pub closed_all : (old new : List State) (path : List ℕ) (place upto class : ℕ) → AreOnPath old path → IsClosedTo old new place upto class → length path ≤ upto → IsClosedFrom old new place class
closed_all old new path place upto class are to all = record {
  each = to.each;
  off = λ a i e le. let less : i < length path = (are.place_of a i e).0 in to.off a i e le (omega arith);
  on = λ a i e less. to.on a i e (inl less);
  whole = to.whole;
  unseen = to.unseen;
}
