-- Lists that are numbered.
use Rattle.std.proofs.Common.{◌≡◌, ◌<◌, ◌≤◌, ◌⊎◌, inl, inr, ℕ, zero, suc, Bool, true, false, ◌&&◌, if◌then◌else◌, List, [], ◌∷◌, ◌++◌, length, map, Some, refl, sym, ap, subst, ◌∙◌, arith}
use Rattle.std.specs.Prelude.{All, slice_get, slice_index_or}
use Rattle.std.specs.List.{list_any}
use Rattle.std.specs.Cmp.Lexicographic.{pointwise}
use Rattle.std.proofs.lemmas.List.{get_or_append_left, length_push, map-append}
use Rattle.std.proofs.lemmas.List.Elements.{All-push}
use Rattle.indexmap.specs.IndexSet.{insert_key}
use Rattle.std.proofs.lemmas.Bool.{and_parts}

-- lists whose items are equal
pub pointwise_equal : {T : Type 0} (eq : T → T → Bool) → ((a b : T) → eq a b ≡ true → a ≡ b) → (xs ys : List T) → pointwise eq xs ys ≡ true → xs ≡ ys
pointwise_equal eq exact [] [] e = refl
pointwise_equal eq exact [] (y ∷ ys) e = cc
pointwise_equal eq exact (x ∷ xs) [] e = cc
pointwise_equal eq exact (x ∷ xs) (y ∷ ys) e =
    let parts = and_parts (eq x y) (pointwise eq xs ys) e in
    let first = exact x y parts.0 in
    let rest = pointwise_equal eq exact xs ys parts.1 in
    λ i. first i ∷ rest i

-- the list of what stands at a place
pub listed_at : {A T : Type 0} (f : A → List T) (keys : List A) (n : ℕ) (k : A) → slice_get keys n ≡ Some k → slice_index_or (map f keys) n [] ≡ f k
listed_at f [] n k e = none e
  where
    none : slice_get [] n ≡ Some k → slice_index_or (map f []) n [] ≡ f k
    none h = cc
listed_at f (x ∷ xs) zero k e = ap f (same e)
  where
    same : Some x ≡ Some k → x ≡ k
    same h = cc
listed_at f (x ∷ xs) (suc n) k e = listed_at f xs n k e

-- a list is added, unless it's there
pub added : {A T : Type 0} (f : A → List T) (eq : A → A → Bool) (keys new : List A) (k : A) (lists : List (List T)) → new ≡ insert_key eq keys k → map f keys ≡ lists
    → (map f new ≡ lists) ⊎ (map f new ≡ lists ++ f k ∷ [])
added f eq keys new k lists e view = by (list_any (eq k) keys) (ap (map f) e)
  where
    by : (b : Bool) → map f new ≡ map f (if b then keys else keys ++ k ∷ []) → (map f new ≡ lists) ⊎ (map f new ≡ lists ++ f k ∷ [])
    by true h = inl (h ∙ view)
    by false h = inr (h ∙ map-append f keys (k ∷ []) ∙ ap (λ ls. ls ++ f k ∷ []) view)

module _ {T : Type 0} (old new : List (List T)) (list : List T) where
  -- lists that had a number keep it
  pub kept : (new ≡ old) ⊎ (new ≡ old ++ list ∷ []) → (n : ℕ) → n < length old → slice_index_or new n [] ≡ slice_index_or old n []
  kept (inl e) n less = ap (λ ls. slice_index_or ls n []) e
  kept (inr e) n less = ap (λ ls. slice_index_or ls n []) e ∙ get_or_append_left old (list ∷ []) [] n less

  pub longer : (new ≡ old) ⊎ (new ≡ old ++ list ∷ []) → length old ≤ length new
  longer (inl e) = let same = ap length e in omega arith
  longer (inr e) = let more = ap length e in let one = length_push old list in omega arith

  -- what holds of each list and of the added one holds of each
  pub all_more : (P : List T → Type 0) → (new ≡ old) ⊎ (new ≡ old ++ list ∷ []) → All P old → P list → All P new
  all_more P (inl e) all one = subst (All P) (sym e) all
  all_more P (inr e) all one = subst (All P) (sym e) (All-push P old list all one)
