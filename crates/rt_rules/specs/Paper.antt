-- The paper's rules over derived variables alone.
use Rattle.std.specs.Prelude.{◌≡◌, ◌↔◌, ℕ, List, Contains}
use Rattle.rt_lines.specs.declared.label.Label.{Label}
use Rattle.rt_lines.specs.declared.label.Label.TheVariants.{Load, Store}
use Rattle.rt_lines.specs.declared.label.Variance.TheVariants.{Co, Contra}
use Rattle.rt_lines.specs.declared.variable.Dtv.{Dtv}
use Rattle.rt_lines.specs.declared.line.Line.{Line}
use Rattle.rt_lines.specs.declared.line.Line.TheVariants.{Var, Same, Sub, Low, Up}
use Rattle.rt_lines.specs.Words.{label_variance}
use Rattle.rt_lines.specs.Orders.{Below, IsAtOrBelow}
use Rattle.rt_rules.specs.Rules.{longer, HasSide, Derivable}

-- The rules of existence and of subtyping (PLDI 2016, figure 3), where the rules for `same` are replaced by two:
-- of two variables of which one lies below the other, each has the letters of the other
pub data InPaper (lines : List Line) : Line → Type 0 where
  paper_named : (l : Line) {x : Dtv} → Contains lines l → HasSide l x → InPaper lines (Var x)
  paper_prefix : {x : Dtv} (l : Label) → InPaper lines (Var (longer x l)) → InPaper lines (Var x)
  paper_left_side : {x y : Dtv} → InPaper lines (Sub x y) → InPaper lines (Var x)
  paper_right_side : {x y : Dtv} → InPaper lines (Sub x y) → InPaper lines (Var y)
  paper_up : {x y : Dtv} (l : Label) → InPaper lines (Sub x y) → InPaper lines (Var (longer x l)) → InPaper lines (Var (longer y l))
  paper_down : {x y : Dtv} (l : Label) → InPaper lines (Sub x y) → InPaper lines (Var (longer y l)) → InPaper lines (Var (longer x l))
  paper_sub_line : {x y : Dtv} → Contains lines (Sub x y) → InPaper lines (Sub x y)
  paper_sub_self : {x : Dtv} → InPaper lines (Var x) → InPaper lines (Sub x x)
  paper_sub_chain : {x y z : Dtv} → InPaper lines (Sub x y) → InPaper lines (Sub y z) → InPaper lines (Sub x z)
  paper_sub_co : {x y : Dtv} (l : Label) → InPaper lines (Sub x y) → InPaper lines (Var (longer y l)) → label_variance l ≡ Co →
      InPaper lines (Sub (longer x l) (longer y l))
  paper_sub_contra : {x y : Dtv} (l : Label) → InPaper lines (Sub x y) → InPaper lines (Var (longer y l)) →
      label_variance l ≡ Contra →
      InPaper lines (Sub (longer y l) (longer x l))
  paper_sub_pointer : (x : Dtv) → InPaper lines (Var (longer x Load)) → InPaper lines (Var (longer x Store)) →
      InPaper lines (Sub (longer x Store) (longer x Load))

-- the lower bounds of variables: the lines', and those that the paper's subtyping and the order of constants make of them
pub data IsPaperLow (order : Below) (lines : List Line) : ℕ → Dtv → Type 0 where
  paper_low_line : {k : ℕ} {x : Dtv} → Contains lines (Low k x) → IsPaperLow order lines k x
  paper_low_sub : {j k : ℕ} {x y : Dtv} → IsPaperLow order lines k x → InPaper lines (Sub x y) → IsAtOrBelow order j k →
      IsPaperLow order lines j y

-- the upper bounds of variables, likewise
pub data IsPaperUp (order : Below) (lines : List Line) : Dtv → ℕ → Type 0 where
  paper_up_line : {k : ℕ} {x : Dtv} → Contains lines (Up x k) → IsPaperUp order lines x k
  paper_up_sub : {j k : ℕ} {x y : Dtv} → InPaper lines (Sub x y) → IsPaperUp order lines y k → IsAtOrBelow order k j →
      IsPaperUp order lines x j

-- no line is a `same`
abbrev pub HasNoSame : List Line → Type 0
HasNoSame lines = (x y : Dtv) → Contains lines (Same x y) → ⊥

-- where no line is a `same`, the paper's rules derive the same variables
abbrev pub WithoutSameVar : Type 0
WithoutSameVar = (order : Below) (lines : List Line) (x : Dtv) → HasNoSame lines →
    Derivable order lines (Var x) ↔ InPaper lines (Var x)

-- where no line is a `same`, the paper's rules derive the same subtypings
abbrev pub WithoutSameSub : Type 0
WithoutSameSub = (order : Below) (lines : List Line) (x y : Dtv) → HasNoSame lines → Derivable order lines (Sub x y) ↔
    InPaper lines (Sub x y)

-- where no line is a `same`, the lower bounds are those over the paper's subtyping
abbrev pub WithoutSameLow : Type 0
WithoutSameLow = (order : Below) (lines : List Line) (k : ℕ) (x : Dtv) → HasNoSame lines → Derivable order lines (Low k x) ↔
    IsPaperLow order lines k x

-- where no line is a `same`, the upper bounds are those over the paper's subtyping
abbrev pub WithoutSameUp : Type 0
WithoutSameUp = (order : Below) (lines : List Line) (x : Dtv) (k : ℕ) → HasNoSame lines → Derivable order lines (Up x k) ↔
    IsPaperUp order lines x k
