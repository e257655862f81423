-- Classes of existentials that are consumed alike, or defined alike: whose consuming uses, or whose defining uses, are the same but for
-- classes.
use Rattle.std.specs.Prelude.{◌≡◌, ◌≤◌, ℕ, ◌⊎◌, List, Contains}
use Rattle.rt_lines.specs.declared.label.Label.{Label}
use Rattle.rt_lines.specs.declared.label.Variance.{Variance}
use Rattle.rt_lines.specs.declared.label.Variance.TheVariants.{Contra}
use Rattle.rt_lines.specs.declared.variable.Base.{Base}
use Rattle.rt_lines.specs.declared.variable.Base.TheVariants.{Exist}
use Rattle.rt_lines.specs.declared.variable.Dtv.{Dtv}
use Rattle.rt_lines.specs.declared.line.Line.{Line}
use Rattle.rt_lines.specs.declared.line.Line.TheVariants.{Sub, Low, Up}
use Rattle.rt_lines.specs.Words.{variance_of_word, times}
use Rattle.rt_rules.specs.Put.{use_of}
use Rattle.rt_refine.specs.Refinements.{of_exist, move}

-- A variable with the word, as the left side of a `<=` line or as the right one, is a use of its base: a defining one at Co, a consuming
-- one at Contra.
abbrev pub IsLeftUse : Variance → List Label → Type 0
IsLeftUse sign word = variance_of_word word ≡ times Contra sign

abbrev pub IsRightUse : Variance → List Label → Type 0
IsRightUse sign word = variance_of_word word ≡ sign

-- two variables are one but for classes; and one, where something holds
pub record AreOne (class : ℕ → ℕ) (exactly : Type 0) (z y : Dtv) : Type 0 where
  pub but_for : move class z ≡ move class y
  pub exact : exactly → z ≡ y

-- Each use of the first existential of the sign is one of the second: on the same side with the same word, and beside the same but for
-- classes. What is used so itself in that line is the same.
pub record AreMatched (sign : Variance) (lines : List Line) (class : ℕ → ℕ) (v w : ℕ) : Type 0 where
  pub left : (u : List Label) (y : Dtv) → IsLeftUse sign u → Contains lines (Sub (of_exist v u) y) →
      (z : Dtv) × Contains lines (Sub (of_exist w u) z) × AreOne class (IsRightUse sign y.word) z y
  pub right : (x : Dtv) (u : List Label) → IsRightUse sign u → Contains lines (Sub x (of_exist v u)) →
      (z : Dtv) × Contains lines (Sub z (of_exist w u)) × AreOne class (IsLeftUse sign x.word) z x
  pub low : (k : ℕ) (u : List Label) → IsRightUse sign u → Contains lines (Low k (of_exist v u)) →
      Contains lines (Low k (of_exist w u))
  pub up : (u : List Label) (k : ℕ) → IsLeftUse sign u → Contains lines (Up (of_exist v u) k) → Contains lines (Up (of_exist w u) k)

-- the base is no existential with a use of the sign that has no letter and stands beside a variable
abbrev pub IsEnd : Variance → List Line → Base → Type 0
IsEnd sign lines b = (n : ℕ) (z : Dtv) → b ≡ Exist n → Contains lines (use_of sign n z) → ⊥

-- A chain of uses that have no letter leads from the existential to an end: of consuming uses, from what consumes it to what consumes the
-- base of that, and so on.
pub data LeadsOut (sign : Variance) (lines : List Line) : ℕ → Type 0 where
  ends : {n : ℕ} (z : Dtv) → Contains lines (use_of sign n z) → IsEnd sign lines z.base → LeadsOut sign lines n
  goes_on : {n : ℕ} (z : Dtv) (m : ℕ) → Contains lines (use_of sign n z) → z.base ≡ Exist m → LeadsOut sign lines m →
      LeadsOut sign lines n

-- Each class has the name of its least member. The members of a class of more than one lead out, and their uses of the sign are the same
-- but for classes.
pub record IsTwinning (sign : Variance) (lines : List Line) (class : ℕ → ℕ) : Type 0 where
  pub least : (v : ℕ) → class v ≤ v
  pub own : (v : ℕ) → class (class v) ≡ class v
  pub leads : (v w : ℕ) → class v ≡ class w → (v ≡ w) ⊎ LeadsOut sign lines v
  pub matched : (v w : ℕ) → class v ≡ class w → AreMatched sign lines class v w

-- no twinning has two existentials in one class that are in two classes here
pub record IsCoarsestTwinning (sign : Variance) (lines : List Line) (class : ℕ → ℕ) : Type 0 where
  pub twins : IsTwinning sign lines class
  pub widest : (other : ℕ → ℕ) → IsTwinning sign lines other → (v w : ℕ) → other v ≡ other w → class v ≡ class w
