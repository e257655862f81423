-- The nodes of definitions with an operation, and of joins.
use Rattle.std.proofs.Common.{◌≡◌, ◌+◌, ◌<◌, ◌≤◌, ◌⊎◌, inl, inr, ℕ, List, [], ◌∷◌, ◌++◌, length, Some, sym, ap, subst, ◌∙◌, arith}
use Rattle.std.specs.Prelude.{slice_get}
use Rattle.std.proofs.lemmas.Bool.{cases_lt}
use Rattle.std.proofs.lemmas.List.{length-append}
use Rattle.std.proofs.lemmas.Option.{slice_get_within}
use Rattle.rt_base.proofs.Lists.{slice_get-front, slice_get-last}

-- the items before one are made of those of a list, each in its place behind some others
pub record IsMade {X Y : Type 0} (before : ℕ) (f : X → Y) (xs : List X) (k : ℕ) (ys : List Y) : Type 0 where
  pub each : length ys ≡ before + k
  pub made : (j : ℕ) (x : X) → j < k → slice_get xs j ≡ Some x → slice_get ys (before + j) ≡ Some (f x)

-- one more is made
pub made_more : {X Y : Type 0} (before : ℕ) (f : X → Y) (xs : List X) (k : ℕ) (ys : List Y) → IsMade before f xs k ys → (x : X) → slice_get xs k ≡ Some x → (ys' : List Y) → ys' ≡ ys ++ f x ∷ [] → IsMade before f xs (k + 1) ys'
made_more {X = X} {Y = Y} before f xs k ys is x at ys' e = subst (IsMade before f xs (k + 1)) (sym e) (record {
  each = let long = length-append ys (f x ∷ []) in let each = is.each in omega arith;
  made = λ j y less at_j. by j y less at_j (cases_lt j k);
})
  where
    same : (j : ℕ) (y : X) → k ≡ j → slice_get xs j ≡ Some y → x ≡ y
    same j y f at_j = let g : Some x ≡ Some y = sym at ∙ ap (slice_get xs) f ∙ at_j in cc

    by : (j : ℕ) (y : X) → j < k + 1 → slice_get xs j ≡ Some y → (j < k) ⊎ (k ≤ j) → slice_get (ys ++ f x ∷ []) (before + j) ≡ Some (f y)
    by j y less at_j (inl h) = slice_get-front ys (f x ∷ []) (before + j) (f y) (is.made j y h at_j)
    by j y less at_j (inr h) =
        let g : k ≡ j = omega arith in
        ap (slice_get (ys ++ f x ∷ [])) (ap (λ n. before + n) (sym g) ∙ sym is.each) ∙ slice_get-last ys (f x) ∙ ap (λ z. Some (f z)) (same j y g at_j)

-- nothing is made at first
pub made_none : {X Y : Type 0} (before : ℕ) (f : X → Y) (xs : List X) (ys : List Y) → length ys ≡ before → IsMade before f xs 0 ys
made_none before f xs ys e = record { each = omega arith; made = λ j x none at. absurd (omega arith) }

-- in the end all is made
pub made_all : {X Y : Type 0} (before : ℕ) (f : X → Y) (xs : List X) (k : ℕ) (ys : List Y) → IsMade before f xs k ys → length xs ≤ k → (j : ℕ) (x : X) → slice_get xs j ≡ Some x → slice_get ys (before + j) ≡ Some (f x)
made_all before f xs k ys is whole j x at = is.made j x (let less = slice_get_within xs j x at in omega arith) at
