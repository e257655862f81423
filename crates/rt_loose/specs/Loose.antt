-- What is loosely derivable: where loads and stores through one readable and writable pointer are of one type.
use Rattle.std.specs.Prelude.{◌≡◌, ℕ, List, ◌++◌, Contains}
use Rattle.rt_lines.specs.declared.label.Label.{Label}
use Rattle.rt_lines.specs.declared.label.Label.TheVariants.{Load, Store}
use Rattle.rt_lines.specs.declared.label.Variance.TheVariants.{Co, Contra}
use Rattle.rt_lines.specs.declared.variable.Dtv.{Dtv}
use Rattle.rt_lines.specs.declared.line.Line.{Line}
use Rattle.rt_lines.specs.declared.line.Line.TheVariants.{Var, Same, Sub, Low, Up}
use Rattle.rt_lines.specs.Words.{label_variance}
use Rattle.rt_lines.specs.Orders.{Below, IsAtOrBelow}
use Rattle.rt_rules.specs.Rules.{longer, HasSide, Derivable}

-- the line `X.load <= X.store` of a variable with both
pub record IsPointerLine (order : Below) (lines : List Line) (line : Line) : Type 0 where
  pub pointer : Dtv
  pub loads : Derivable order lines (Var (longer pointer Load))
  pub stores : Derivable order lines (Var (longer pointer Store))
  pub is : line ≡ Sub (longer pointer Load) (longer pointer Store)

-- derivable from the lines and some such lines
pub record IsLoose (order : Below) (lines : List Line) (line : Line) : Type 0 where
  pub added : List Line
  pub each : (l : Line) → Contains added l → IsPointerLine order lines l
  pub derivable : Derivable order (lines ++ added) line

-- the same, rule by rule: the rules of derivation and one more
pub data Loosely (order : Below) (lines : List Line) : Line → Type 0 where
  named : (l : Line) {x : Dtv} → Contains lines l → HasSide l x → Loosely order lines (Var x)
  prefix : {x : Dtv} (l : Label) → Loosely order lines (Var (longer x l)) → Loosely order lines (Var x)
  left_side : {x y : Dtv} → Loosely order lines (Sub x y) → Loosely order lines (Var x)
  right_side : {x y : Dtv} → Loosely order lines (Sub x y) → Loosely order lines (Var y)
  same_letter : {x y : Dtv} (l : Label) → Loosely order lines (Same x y) → Loosely order lines (Var (longer x l)) →
      Loosely order lines (Var (longer y l))
  same_line : {x y : Dtv} → Contains lines (Same x y) → Loosely order lines (Same x y)
  same_sub : {x y : Dtv} → Loosely order lines (Sub x y) → Loosely order lines (Same x y)
  same_self : {x : Dtv} → Loosely order lines (Var x) → Loosely order lines (Same x x)
  same_back : {x y : Dtv} → Loosely order lines (Same x y) → Loosely order lines (Same y x)
  same_chain : {x y z : Dtv} → Loosely order lines (Same x y) → Loosely order lines (Same y z) → Loosely order lines (Same x z)
  same_longer : {x y : Dtv} (l : Label) → Loosely order lines (Same x y) → Loosely order lines (Var (longer x l)) →
      Loosely order lines (Same (longer x l) (longer y l))
  sub_line : {x y : Dtv} → Contains lines (Sub x y) → Loosely order lines (Sub x y)
  sub_self : {x : Dtv} → Loosely order lines (Var x) → Loosely order lines (Sub x x)
  sub_chain : {x y z : Dtv} → Loosely order lines (Sub x y) → Loosely order lines (Sub y z) → Loosely order lines (Sub x z)
  sub_co : {x y : Dtv} (l : Label) → Loosely order lines (Sub x y) → Loosely order lines (Var (longer y l)) →
      label_variance l ≡ Co →
      Loosely order lines (Sub (longer x l) (longer y l))
  sub_contra : {x y : Dtv} (l : Label) → Loosely order lines (Sub x y) → Loosely order lines (Var (longer y l)) →
      label_variance l ≡ Contra → Loosely order lines (Sub (longer y l) (longer x l))
  sub_pointer : (x : Dtv) → Loosely order lines (Var (longer x Load)) → Loosely order lines (Var (longer x Store)) →
      Loosely order lines (Sub (longer x Store) (longer x Load))
  loose_pointer : (x : Dtv) → Loosely order lines (Var (longer x Load)) → Loosely order lines (Var (longer x Store)) →
      Loosely order lines (Sub (longer x Load) (longer x Store))
  low_line : {k : ℕ} {x : Dtv} → Contains lines (Low k x) → Loosely order lines (Low k x)
  up_line : {k : ℕ} {x : Dtv} → Contains lines (Up x k) → Loosely order lines (Up x k)
  low_sub : {j k : ℕ} {x y : Dtv} → Loosely order lines (Low k x) → Loosely order lines (Sub x y) → IsAtOrBelow order j k →
      Loosely order lines (Low j y)
  up_sub : {j k : ℕ} {x y : Dtv} → Loosely order lines (Sub x y) → Loosely order lines (Up y k) → IsAtOrBelow order k j →
      Loosely order lines (Up x j)
