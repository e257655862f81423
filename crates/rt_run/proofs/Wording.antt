-- Words.
use Rattle.std.proofs.Common.{◌≡◌, ◌≢◌, ◌∙◌, ℕ, ◌-◌, ◌≤◌, List, [], ◌∷◌, None, ap, arith, drop, get_or, length, map, refl, take}
use Rattle.std.proofs.Math.Seq.{take-length}
use Rattle.std.proofs.lemmas.List.{take_all}
use Rattle.rt_run.specs.Words.{entail_of}

-- other counts of words than 2 and 4 aren't those of `entail`
pub entail_none : {X : Type 0} (f : X → List ℕ) (words : List X) → length words ≢ 2 → length words ≢ 4 → entail_of (map f words) ≡ None
entail_none f [] two four = refl
entail_none f (a ∷ []) two four = refl
entail_none f (a ∷ b ∷ []) two four = absurd (two (omega arith))
entail_none f (a ∷ b ∷ c ∷ []) two four = refl
entail_none f (a ∷ b ∷ c ∷ d ∷ []) two four = absurd (four (omega arith))
entail_none f (a ∷ b ∷ c ∷ d ∷ e ∷ words) two four = refl

-- two words, and four, by their places
pub two_words : {X : Type 0} (f : X → List ℕ) (words : List X) (a b : X) (v w : List ℕ) → length words ≡ 2 → a ≡ get_or words 0 a → b ≡ get_or words 1 b
    → v ≡ f a → w ≡ f b → map f words ≡ v ∷ w ∷ []
two_words f [] a b v w two first second is_v is_w = absurd (omega (arith, two))
two_words f (x ∷ []) a b v w two first second is_v is_w = absurd (omega (arith, two))
two_words f (x ∷ y ∷ []) a b v w two first second is_v is_w = let p : v ≡ f x = is_v ∙ ap f first in let q : w ≡ f y = is_w ∙ ap f second in rw (p, q) refl
two_words f (x ∷ y ∷ z ∷ words) a b v w two first second is_v is_w = absurd (omega (arith, two))

-- the first two words, and those after them
pub two_first : {X : Type 0} (f : X → List ℕ) (words : List X) (a b : X) (v w : List ℕ) → 2 ≤ length words → a ≡ get_or words 0 a → b ≡ get_or words 1 b
    → v ≡ f a → w ≡ f b → map f words ≡ v ∷ w ∷ map f (drop 2 words)
two_first f [] a b v w many first second is_v is_w = absurd (omega (arith, many))
two_first f (x ∷ []) a b v w many first second is_v is_w = absurd (omega (arith, many))
two_first f (x ∷ y ∷ words) a b v w many first second is_v is_w = let p : v ≡ f x = is_v ∙ ap f first in let q : w ≡ f y = is_w ∙ ap f second in rw (p, q) refl

-- all that is left after two
pub left_all : {X : Type 0} (words : List X) (n : ℕ) → n ≡ length words → take (n - 2) (drop 2 words) ≡ drop 2 words
left_all [] n is = take_all (n - 2) [] (omega arith)
left_all (x ∷ []) n is = take_all (n - 2) [] (omega arith)
left_all (x ∷ y ∷ words) n is = let e : n - 2 ≡ length words = omega (arith, is) in rw e (take-length words)
