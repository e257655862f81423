-- Numbers of the variables that lines name, which tell which of them lie below each other.
use Rattle.std.specs.Prelude.{◌≡◌, ℕ, ◌<◌, ◌↔◌, List, Option, Some, None, IsSome, length, slice_index_or}
use Rattle.rt_lines.specs.declared.variable.Dtv.{Dtv}
use Rattle.rt_lines.specs.declared.line.Line.{Line}
use Rattle.rt_lines.specs.declared.line.Line.TheVariants.{Sub}
use Rattle.rt_lines.specs.Orders.{Below}
use Rattle.rt_rules.specs.Rules.{Derivable}
use Rattle.rt_rules.specs.Put.{exist}
use Rattle.rt_sat.specs.Numbered.{at_number}

-- lines, and the variables that are numbered
pub record Lined : Type 0 where
  pub lines : List Line
  pub named : List Dtv

-- the variable of a number is a bare existential
abbrev pub IsExistential : List Dtv → ℕ → Type 0
IsExistential named i = (n : ℕ) × (at_number named i ≡ exist n)

-- of two variables each lies below the other by the lines
abbrev pub AreEqual : Below → List Line → List Dtv → ℕ → ℕ → Type 0
AreEqual order lines named i j = Derivable order lines (Sub (at_number named i) (at_number named j)) ×
    Derivable order lines (Sub (at_number named j) (at_number named i))

-- a number for each variable; another one has that of an existential exactly where each of the two lies below the other
pub record AreEquals (lines : List Line) (named : List Dtv) (numbers : List ℕ) : Type 0 where
  pub each : length numbers ≡ length named
  pub equal : (order : Below) (i j : ℕ) → i < length named → j < length named → IsExistential named i →
      (slice_index_or numbers i 0 ≡ slice_index_or numbers j 0) ↔ AreEqual order lines named i j

-- those that have an existential's number by the first numbers have it by the second ones too
abbrev pub Agree : List Dtv → List ℕ → List ℕ → Type 0
Agree named outer inner = (i j : ℕ) → i < length named → j < length named → IsExistential named i →
    slice_index_or outer i 0 ≡ slice_index_or outer j 0 → slice_index_or inner i 0 ≡ slice_index_or inner j 0

-- at each number of an existential a number is marked
abbrev pub AreMarked : List Dtv → List ℕ → ℕ → List (Option ℕ) → Type 0
AreMarked named outer count marks = (i : ℕ) → i < count → IsExistential named i →
    IsSome (slice_index_or marks (slice_index_or outer i 0) None)

-- where a number is marked the others are as marked
abbrev pub AreAsMarked : List ℕ → List ℕ → ℕ → List (Option ℕ) → Type 0
AreAsMarked outer inner count marks = (j m : ℕ) → j < count →
    slice_index_or marks (slice_index_or outer j 0) None ≡ Some m → slice_index_or inner j 0 ≡ m
