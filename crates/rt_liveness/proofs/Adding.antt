-- Lists at whose end items were added, step by step.
use Rattle.std.proofs.Common.{◌≡◌, ℕ, ◌+◌, ◌<◌, ◌≤◌, ◌⊎◌, ◌↔◌, inl, inr, Bool, true, List, [], ◌∷◌, ◌++◌, Contains, length, get_or, slice_get, Some, refl, sym, ap, subst, ◌∙◌, arith}
use Rattle.std.specs.List.{list_any}
use Rattle.std.proofs.lemmas.Bool.{cases_lt}
use Rattle.std.proofs.lemmas.List.{append-nil, append_assoc}
use Rattle.std.proofs.lemmas.List.Elements.{Contains-append_left, Contains-push, Contains-push_cases}
use Rattle.std.proofs.lemmas.Option.{slice_get-get_or, slice_get_within, get_or_from_slice_get}
use Rattle.indexmap.specs.IndexSet.{insert_key}
use Rattle.indexmap.proofs.CallerLemmas.{Contains-insert_key}
use Rattle.rt_liveness.specs.Inside.Additions.{Adds}
use Rattle.rt_base.proofs.Lists.{Contains-none}

cases_bool : (b : Bool) → (b ≡ true) ⊎ (b ≡ Bool.false)
cases_bool true = inl refl
cases_bool Bool.false = inr refl

-- the items are those at its places
pub at_places : {X : Type 0} (xs : List X) (x : X) → ((k : ℕ) × (k < length xs) × (slice_get xs k ≡ Some x)) ↔ Contains xs x
at_places xs x = (
  (λ h. (h.0, h.1, get_or_from_slice_get xs h.0 x x h.2)),
  λ h. (h.0, h.1, slice_get-get_or xs h.0 x h.1 ∙ ap Some h.2),
)

-- an item at a place
pub found_at : {X : Type 0} (xs : List X) (k : ℕ) (x : X) → slice_get xs k ≡ Some x → Contains xs x
found_at xs k x h = (k, slice_get_within xs k x h, get_or_from_slice_get xs k x x h)

-- an item at a place, and the item read there
pub read_at : {X : Type 0} (xs : List X) (k : ℕ) (x : X) → k < length xs → x ≡ get_or xs k x → slice_get xs k ≡ Some x
read_at xs k x less is = slice_get-get_or xs k x less ∙ ap Some (sym is)

-- a number below the next one
pub below_next : (k i : ℕ) → k < i + 1 → (k < i) ⊎ (i ≡ k)
below_next k i h = elim (cases_lt k i) [ inl less ↦ inl less | inr le ↦ inr (omega arith) ]

module _ {X : Type 0} where
  pub kept : (old new : List X) (P : X → Type 0) → Adds old new P → (x : X) → Contains old x → Contains new x
  kept old new P adds x h = subst (λ (xs : List X). Contains xs x) (sym adds.front) (Contains-append_left old adds.rest x h)

  -- no step was made yet
  pub none_yet : (xs : List X) (P : ℕ → X → Type 0) → Adds xs xs (λ x. (k : ℕ) × (k < 0) × P k x)
  none_yet xs P = record {
    rest = [];
    front = sym (append-nil xs);
    added = λ x h. let lt = h.1 in absurd (omega arith);
    only = λ x h. inl h;
  }

  -- a step that adds nothing
  pub nothing : (xs : List X) (P : X → Type 0) → ((x : X) → P x → ⊥) → Adds xs xs P
  nothing xs P none = record { rest = []; front = sym (append-nil xs); added = λ x h. absurd (none x h); only = λ x h. inl h }

  -- one step more
  module _ (first old new : List X) (P : ℕ → X → Type 0) (i : ℕ) (before : Adds first old (λ x. (k : ℕ) × (k < i) × P k x)) (step : Adds old new (P i)) where
    step_added : (x : X) (k : ℕ) → P k x → (k < i) ⊎ (i ≡ k) → Contains new x
    step_added x k p (inl less) = kept old new (P i) step x (before.added x (k, less, p))
    step_added x k p (inr same) = step.added x (subst (λ (n : ℕ). P n x) (sym same) p)

    step_old : (x : X) → Contains first x ⊎ ((k : ℕ) × (k < i) × P k x) → Contains first x ⊎ ((k : ℕ) × (k < i + 1) × P k x)
    step_old x (inl h) = inl h
    step_old x (inr (k, less, p)) = inr (k, omega arith, p)

    step_only : (x : X) → Contains old x ⊎ P i x → Contains first x ⊎ ((k : ℕ) × (k < i + 1) × P k x)
    step_only x (inl h) = step_old x (before.only x h)
    step_only x (inr p) = inr (i, omega arith, p)

    pub one_more : Adds first new (λ x. (k : ℕ) × (k < i + 1) × P k x)
    one_more = record {
      rest = before.rest ++ step.rest;
      front = step.front ∙ (ap (λ (xs : List X). xs ++ step.rest) before.front ∙ append_assoc first before.rest step.rest);
      added = λ x h. step_added x h.0 h.2 (below_next h.0 i h.1);
      only = λ x h. step_only x (step.only x h);
    }

  -- one step after another
  module _ (first old new : List X) (P Q : X → Type 0) (before : Adds first old P) (step : Adds old new Q) where
    both_added : (x : X) → P x ⊎ Q x → Contains new x
    both_added x (inl p) = kept old new Q step x (before.added x p)
    both_added x (inr q) = step.added x q

    both_old : (x : X) → Contains first x ⊎ P x → Contains first x ⊎ (P x ⊎ Q x)
    both_old x (inl h) = inl h
    both_old x (inr p) = inr (inl p)

    both_only : (x : X) → Contains old x ⊎ Q x → Contains first x ⊎ (P x ⊎ Q x)
    both_only x (inl h) = both_old x (before.only x h)
    both_only x (inr q) = inr (inr q)

    pub both : Adds first new (λ x. P x ⊎ Q x)
    both = record {
      rest = before.rest ++ step.rest;
      front = step.front ∙ (ap (λ (xs : List X). xs ++ step.rest) before.front ∙ append_assoc first before.rest step.rest);
      added = both_added;
      only = λ x h. both_only x (step.only x h);
    }

  -- the same property in other words
  pub alike : (old new : List X) (P Q : X → Type 0) → ((x : X) → P x ↔ Q x) → Adds old new P → Adds old new Q
  alike old new P Q same adds = record {
    rest = adds.rest;
    front = adds.front;
    added = λ x q. adds.added x ((same x).1 q);
    only = λ x h. elim (adds.only x h) [ inl o ↦ inl o | inr p ↦ inr ((same x).0 p) ];
  }

  -- one item at the end
  pub pushed : (old new : List X) (y : X) → new ≡ old ++ y ∷ [] → Adds old new (λ x. x ≡ y)
  pushed old new y is = record {
    rest = y ∷ [];
    front = is;
    added = λ x e. subst (λ (xs : List X). Contains xs x) (sym is) (subst (Contains (old ++ y ∷ [])) (sym e) (Contains-push old y));
    only = λ x h. elim (Contains-push_cases old y x (subst (λ (xs : List X). Contains xs x) is h)) [ inl o ↦ inl o | inr e ↦ inr (sym e) ];
  }

  -- what was added to nothing
  pub from_none : (old new : List X) (P : X → Type 0) → old ≡ [] → Adds old new P → (x : X) → Contains new x ↔ P x
  from_none old new P none adds x = (
    (λ h. elim (adds.only x h) [ inl o ↦ absurd (Contains-none x (subst (λ (xs : List X). Contains xs x) none o)) | inr p ↦ p ]),
    adds.added x,
  )

  -- one key, unless it is there
  module _ (eq : X → X → Bool) (one : (x y : X) → eq x y ≡ true → x ≡ y) where
    insert_front : (ks : List X) (k : X) → (rest : List X) × (insert_key eq ks k ≡ ks ++ rest)
    insert_front ks k = elim (cases_bool (list_any (eq k) ks)) [
      | inl there ↦ ([], rw (there, append-nil) refl)
      | inr new ↦ (k ∷ [], rw new refl)
    ]

    insert_source : (ks : List X) (k x : X) → Contains (insert_key eq ks k) x → Contains ks x ⊎ (x ≡ k)
    insert_source ks k x h = elim (cases_bool (list_any (eq k) ks)) [
      | inl there ↦ inl (rw there at h)
      | inr new ↦ elim (Contains-push_cases ks k x (rw new at h)) [ inl o ↦ inl o | inr e ↦ inr (sym e) ]
    ]

    pub inserted : (old new : List X) (k : X) → new ≡ insert_key eq old k → Adds old new (λ x. x ≡ k)
    inserted old new k is = record {
      rest = (insert_front old k).0;
      front = is ∙ (insert_front old k).1;
      added = λ x e. subst (λ (xs : List X). Contains xs x) (sym is) (subst (Contains (insert_key eq old k)) (sym e) (Contains-insert_key eq one old k));
      only = λ x h. insert_source old k x (subst (λ (xs : List X). Contains xs x) is h);
    }

-- a loop over items
module _ {X Y : Type 0} (items : List Y) (P : Y → X → Type 0) where
  -- what was added for the first i items
  abbrev pub ForFirst : ℕ → X → Type 0
  ForFirst i x = (k : ℕ) × (k < i) × ((item : Y) × (slice_get items k ≡ Some item) × P item x)

  pub no_item : (xs : List X) → Adds xs xs (ForFirst 0)
  no_item xs = none_yet xs (λ k x. (item : Y) × (slice_get items k ≡ Some item) × P item x)

  pub next_item : (first old new : List X) (i : ℕ) (item : Y) → slice_get items i ≡ Some item → Adds first old (ForFirst i) → Adds old new (P item) → Adds first new (ForFirst (i + 1))
  next_item first old new i item at before step =
      one_more first old new (λ k x. (other : Y) × (slice_get items k ≡ Some other) × P other x) i before
      (alike old new (P item) (λ x. (other : Y) × (slice_get items i ≡ Some other) × P other x) (λ x. ((λ p. (item, at, p)), λ h. back x h)) step)
    where
      back : (x : X) → ((other : Y) × (slice_get items i ≡ Some other) × P other x) → P item x
      back x (other, there, p) = let one : other ≡ item = cc in subst (λ (y : Y). P y x) one p

  pub all_items : (first last : List X) (i : ℕ) → length items ≤ i → Adds first last (ForFirst i) → Adds first last (λ x. (item : Y) × Contains items item × P item x)
  all_items first last i whole =
      alike first last (ForFirst i) (λ x. (item : Y) × Contains items item × P item x)
      (λ x. ((λ h. to x h), λ h. from x h))
    where
      to : (x : X) → ForFirst i x → (item : Y) × Contains items item × P item x
      to x (k, less, (item, at, p)) = (item, found_at items k item at, p)

      from : (x : X) → ((item : Y) × Contains items item × P item x) → ForFirst i x
      from x (item, (k, less, is), p) = (k, omega arith, (item, slice_get-get_or items k item less ∙ ap Some is, p))

-- a loop over numbers has come to its end
pub up_to : {X : Type 0} (P : ℕ → X → Type 0) (first last : List X) (i n : ℕ) → i ≡ n → Adds first last (λ x. (k : ℕ) × (k < i) × P k x) → Adds first last (λ x. (k : ℕ) × (k < n) × P k x)
up_to P first last i n e = subst (λ (j : ℕ). Adds first last (λ x. (k : ℕ) × (k < j) × P k x)) e

-- the item at a place, and what is added for it
pub at_place : {X Y : Type 0} (items : List Y) (k : ℕ) (item : Y) (P : Y → X → Type 0) (old new : List X) → slice_get items k ≡ Some item → Adds old new (P item)
    → Adds old new (λ x. (other : Y) × (slice_get items k ≡ Some other) × P other x)
at_place {X} {Y} items k item P old new at = alike old new (P item) (λ x. (other : Y) × (slice_get items k ≡ Some other) × P other x) (λ x. ((λ p. (item, at, p)), λ h. back x h))
  where
    back : (x : X) → ((other : Y) × (slice_get items k ≡ Some other) × P other x) → P item x
    back x (other, there, p) = let one : other ≡ item = cc in subst (λ (y : Y). P y x) one p
