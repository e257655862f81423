-- What holds at a site by changes.
use Rattle.std.proofs.Common.{◌≡◌, ◌+◌, ◌-◌, ◌<◌, ◌≤◌, ℕ, Bool, true, false, if◌then◌else◌, List, [], ◌∷◌, ◌++◌, length, take, drop, map, refl, sym, ap, ◌∙◌, arith}
use Rattle.std.specs.Prelude.{All, nat_le, slice_index_or}
use Rattle.std.specs.List.Sorted.{IsPartitionPoint}
use Rattle.std.proofs.lemmas.List.{get_or-drop, length-drop, take-append-drop, take_more}
use Rattle.std.proofs.lemmas.List.Elements.{All-head, All-tail}
use Rattle.rt_track.specs.Changes.{change_at}

module _ {X : Type 0} where
  change_at-append : (xs ys : List (ℕ × X)) (s : ℕ) (x : X) → change_at (xs ++ ys) s x ≡ change_at ys s (change_at xs s x)
  change_at-append [] ys s x = refl
  change_at-append (c ∷ cs) ys s x = change_at-append cs ys s (if nat_le c.0 s then c.1 else x)

  -- one more change
  pub change_at-push : (xs : List (ℕ × X)) (c : ℕ × X) (s : ℕ) (x : X) → change_at (xs ++ c ∷ []) s x ≡ (if nat_le c.0 s then c.1 else change_at xs s x)
  change_at-push xs c s x = change_at-append xs (c ∷ []) s x

  -- no change
  change_at-none : (xs : List (ℕ × X)) (s : ℕ) (x : X) → All (λ c. nat_le c.0 s ≡ false) xs → change_at xs s x ≡ x
  change_at-none [] s x none = refl
  change_at-none (c ∷ cs) s x none =
      change_at-none cs s (if nat_le c.0 s then c.1 else x) (All-tail (λ c. nat_le c.0 s ≡ false) c cs none)
      ∙ ap (λ b. if b then c.1 else x) (All-head (λ c. nat_le c.0 s ≡ false) c cs none)

  module _ (xs : List (ℕ × X)) (s : ℕ) (x : X) (k : ℕ) (within : k ≤ length xs) (point : IsPartitionPoint (λ c. nat_le c.0 s ≡ true) (λ c. nat_le c.0 s ≡ false) xs k) where
    rest : All (λ c. nat_le c.0 s ≡ false) (drop k xs)
    rest j d less =
        let short = simp length-drop at less in
        let inside : k + j < length xs = omega arith in
        rw get_or-drop (point.1 (k + j) d (omega arith) (omega arith))

    -- the changes behind the point don't count
    only_first : change_at xs s x ≡ change_at (take k xs) s x
    only_first = ap (λ cs. change_at cs s x) (sym (take-append-drop k xs)) ∙ change_at-append (take k xs) (drop k xs) s x ∙ change_at-none (drop k xs) s (change_at (take k xs) s x) rest

    pub before_all : k ≡ 0 → x ≡ change_at xs s x
    before_all none = sym (only_first ∙ ap (λ n. change_at (take n xs) s x) none)

    pub last_change : (k ≡ 0 → ⊥) → (d : ℕ × X) → (slice_index_or xs (k - 1) d).1 ≡ change_at xs s x
    last_change some d =
        let more : (k - 1) + 1 ≡ k = omega arith in
        let inside : k - 1 < length xs = omega arith in
        let e : take k xs ≡ take (k - 1) xs ++ slice_index_or xs (k - 1) d ∷ [] = ap (λ n. take n xs) (sym more) ∙ take_more xs (k - 1) d inside in
        let f : nat_le (slice_index_or xs (k - 1) d).0 s ≡ true = point.0 (k - 1) d (omega arith) (omega arith) in
        sym (only_first ∙ ap (λ cs. change_at cs s x) e ∙ change_at-push (take (k - 1) xs) (slice_index_or xs (k - 1) d) s x
        ∙ ap (λ b. if b then (slice_index_or xs (k - 1) d).1 else change_at (take (k - 1) xs) s x) f)

-- what holds at a site by changes whose values are mapped
pub change_at-map : {X Y : Type 0} (f : X → Y) (xs : List (ℕ × X)) (s : ℕ) (x : X) → change_at (map (λ (c : ℕ × X). (c.0, f c.1)) xs) s (f x) ≡ f (change_at xs s x)
change_at-map {X = X} {Y = Y} f [] s x = refl
change_at-map {X = X} {Y = Y} f (c ∷ cs) s x = ap (change_at (map (λ (c : ℕ × X). (c.0, f c.1)) cs) s) (by (nat_le c.0 s)) ∙ change_at-map f cs s (if nat_le c.0 s then c.1 else x)
  where
    by : (b : Bool) → (if b then f c.1 else f x) ≡ f (if b then c.1 else x)
    by true = refl
    by false = refl
