-- The rules of derivation.
use Rattle.std.specs.Prelude.{◌≡◌, ℕ, ◌⊎◌, List, [], ◌∷◌, ◌++◌, Contains}
use Rattle.rt_lines.specs.declared.label.Label.{Label}
use Rattle.rt_lines.specs.declared.label.Label.TheVariants.{Load, Store}
use Rattle.rt_lines.specs.declared.label.Variance.TheVariants.{Co, Contra}
use Rattle.rt_lines.specs.declared.variable.Dtv.{Dtv}
use Rattle.rt_lines.specs.declared.line.Line.{Line}
use Rattle.rt_lines.specs.declared.line.Line.TheVariants.{Var, Same, Sub, Low, Up}
use Rattle.rt_lines.specs.declared.line.Judge.{Judge}
use Rattle.rt_lines.specs.declared.line.Judge.TheVariants.{Var as JudgeVar, Sub as JudgeSub, Low as JudgeLow, Up as JudgeUp}
use Rattle.rt_lines.specs.Words.{label_variance}
use Rattle.rt_lines.specs.Orders.{Below, IsAtOrBelow}

-- the variable with a letter more
abbrev pub longer : Dtv → Label → Dtv
longer x l = record { base = x.base; word = x.word ++ l ∷ [] }

-- the variable with more letters
abbrev pub extended : Dtv → List Label → Dtv
extended x w = record { base = x.base; word = x.word ++ w }

-- the variable is a side of the line
abbrev pub HasSide : Line → Dtv → Type 0
HasSide (Var x) z = x ≡ z
HasSide (Same x y) z = (x ≡ z) ⊎ (y ≡ z)
HasSide (Sub x y) z = (x ≡ z) ⊎ (y ≡ z)
HasSide (Low k x) z = x ≡ z
HasSide (Up x k) z = x ≡ z

-- what follows from the lines, by a finite tree of rules
pub data Derivable (order : Below) (lines : List Line) : Line → Type 0 where
  -- which variables there are
  named : (l : Line) {x : Dtv} → Contains lines l → HasSide l x → Derivable order lines (Var x)
  prefix : {x : Dtv} (l : Label) → Derivable order lines (Var (longer x l)) → Derivable order lines (Var x)
  left_side : {x y : Dtv} → Derivable order lines (Sub x y) → Derivable order lines (Var x)
  right_side : {x y : Dtv} → Derivable order lines (Sub x y) → Derivable order lines (Var y)
  same_letter : {x y : Dtv} (l : Label) → Derivable order lines (Same x y) → Derivable order lines (Var (longer x l)) →
      Derivable order lines (Var (longer y l))
  -- which variables have one shape
  same_line : {x y : Dtv} → Contains lines (Same x y) → Derivable order lines (Same x y)
  same_sub : {x y : Dtv} → Derivable order lines (Sub x y) → Derivable order lines (Same x y)
  same_self : {x : Dtv} → Derivable order lines (Var x) → Derivable order lines (Same x x)
  same_back : {x y : Dtv} → Derivable order lines (Same x y) → Derivable order lines (Same y x)
  same_chain : {x y z : Dtv} → Derivable order lines (Same x y) → Derivable order lines (Same y z) → Derivable order lines (Same x z)
  same_longer : {x y : Dtv} (l : Label) → Derivable order lines (Same x y) → Derivable order lines (Var (longer x l)) →
      Derivable order lines (Same (longer x l) (longer y l))
  -- which variables lie below which
  sub_line : {x y : Dtv} → Contains lines (Sub x y) → Derivable order lines (Sub x y)
  sub_self : {x : Dtv} → Derivable order lines (Var x) → Derivable order lines (Sub x x)
  sub_chain : {x y z : Dtv} → Derivable order lines (Sub x y) → Derivable order lines (Sub y z) → Derivable order lines (Sub x z)
  sub_co : {x y : Dtv} (l : Label) → Derivable order lines (Sub x y) → Derivable order lines (Var (longer y l)) →
      label_variance l ≡ Co → Derivable order lines (Sub (longer x l) (longer y l))
  sub_contra : {x y : Dtv} (l : Label) → Derivable order lines (Sub x y) → Derivable order lines (Var (longer y l)) →
      label_variance l ≡ Contra → Derivable order lines (Sub (longer y l) (longer x l))
  sub_pointer : (x : Dtv) → Derivable order lines (Var (longer x Load)) → Derivable order lines (Var (longer x Store)) →
      Derivable order lines (Sub (longer x Store) (longer x Load))
  -- which constants bound which variables
  low_line : {k : ℕ} {x : Dtv} → Contains lines (Low k x) → Derivable order lines (Low k x)
  up_line : {k : ℕ} {x : Dtv} → Contains lines (Up x k) → Derivable order lines (Up x k)
  low_sub : {j k : ℕ} {x y : Dtv} → Derivable order lines (Low k x) → Derivable order lines (Sub x y) → IsAtOrBelow order j k →
      Derivable order lines (Low j y)
  up_sub : {j k : ℕ} {x y : Dtv} → Derivable order lines (Sub x y) → Derivable order lines (Up y k) → IsAtOrBelow order k j →
      Derivable order lines (Up x j)

-- a judgement as a line
abbrev pub line_of : Judge → Line
line_of (JudgeVar x) = Var x
line_of (JudgeSub x y) = Sub x y
line_of (JudgeLow k x) = Low k x
line_of (JudgeUp x k) = Up x k
