-- The least count from one variable to another, by a probe.
use Rattle.std.specs.Prelude.{◌≡◌, ℕ, zero, suc, ℤ, ◌+◌, ◌≤◌, List, [], ◌∷◌, ◌++◌, map, length, Contains, Bool, true, replicate, Option}
use Rattle.std.specs.Prelude.{MatchOption, min}
use Rattle.rt_lines.specs.declared.label.Label.{Label}
use Rattle.rt_lines.specs.declared.label.Label.TheVariants.{Load, Store, Field}
use Rattle.rt_lines.specs.declared.label.Variance.{Variance}
use Rattle.rt_lines.specs.declared.variable.Dtv.{Dtv}
use Rattle.rt_lines.specs.declared.line.Line.{Line}
use Rattle.rt_lines.specs.declared.line.Line.TheVariants.{Var, Sub}
use Rattle.rt_lines.specs.Words.{variance_of_word}
use Rattle.rt_lines.specs.Orders.{Below}
use Rattle.rt_rules.specs.Rules.{longer, extended, HasSide, Derivable}
use Rattle.rt_chain.specs.Numbers.{number_of}

-- a field of 8 bits whose offset is in no line and no variable
pub record IsNew (lines : List Line) (extra : List Dtv) (k : ℤ) : Type 0 where
  pub in_lines : (l : Line) (x : Dtv) → Contains lines l → HasSide l x → Contains x.word (Field 8 k) → ⊥
  pub in_extra : (x : Dtv) → Contains extra x → Contains x.word (Field 8 k) → ⊥

-- the words of so many letters, each a load or a store
abbrev pub pointer_words : ℕ → List (List Label)
pointer_words zero = [] ∷ []
pointer_words (suc m) = map (λ (w : List Label). Load ∷ w) (pointer_words m) ++ map (λ (w : List Label). Store ∷ w) (pointer_words m)

-- the lines, and below the probe all words of so many letters
abbrev pub probed : List Line → Dtv → ℤ → ℕ → List Line
probed lines x k m = lines ++ map (λ (w : List Label). Var (extended (longer x (Field 8 k)) w)) (pointer_words m)

abbrev pub all_flip : List Label → List Bool
all_flip w = replicate (length w) true

-- a pair of words counts, and its numbers are so far apart
pub record IsCount (order : Below) (lines : List Line) (extra : List Dtv) (x : Dtv) (a : Variance) (y : Dtv) (b : Variance)
    (count : ℕ) : Type 0 where
  pub offset : ℤ
  pub is_new : IsNew lines extra offset
  pub letters : ℕ
  pub left : List Label
  pub right : List Label
  pub left_in : Contains (pointer_words letters) left
  pub right_in : Contains (pointer_words letters) right
  pub left_sign : variance_of_word left ≡ a
  pub right_sign : variance_of_word right ≡ b
  pub below : Derivable order (probed lines x offset letters)
      (Sub (extended (longer x (Field 8 offset)) left) (extended (longer y (Field 8 offset)) right))
  pub apart : number_of right (all_flip right) ≡ number_of left (all_flip left) + count

pub record IsLeastCount (order : Below) (lines : List Line) (extra : List Dtv) (x : Dtv) (a : Variance) (y : Dtv) (b : Variance)
    (count : ℕ) : Type 0 where
  pub counts : IsCount order lines extra x a y b count
  pub least : (other : ℕ) → IsCount order lines extra x a y b other → count ≤ other

-- what is said of a least count: it, or the greatest number of 32 bits where that is no more, and nothing where there is none
abbrev pub IsWeight : Below → List Line → List Dtv → Dtv → Variance → Dtv → Variance → Option ℕ → Type 0
IsWeight order lines extra x a y b said =
    MatchOption said ((count : ℕ) → IsCount order lines extra x a y b count → ⊥) (λ w. (count : ℕ) ×
    IsLeastCount order lines extra x a y b count × (w ≡ min count 4294967295))
