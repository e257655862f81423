-- Bounds of lines, by the numbers of their variables.
use Rattle.std.specs.Prelude.{◌≡◌, ℕ, ◌<◌, ◌⊎◌, List, Contains, Bool, true, false, Some, slice_get, slice_index_or}
use Rattle.rt_lines.specs.declared.variable.Dtv.{Dtv}
use Rattle.rt_lines.specs.declared.line.Line.{Line}
use Rattle.rt_lines.specs.declared.line.Line.TheVariants.{Up}
use Rattle.rt_lines.specs.Orders.{Below, IsAtOrBelow}
use Rattle.rt_outline.specs.declared.bounds.Bound.{Bound}
use Rattle.rt_outline.specs.Lines.{IsNumber}

-- an upper bound, its constant first
abbrev pub upper_bound : ℕ → Dtv → Line
upper_bound k x = Up x k

-- the second constant is the first one, or below it
abbrev pub IsAtOrAbove : Below → ℕ → ℕ → Type 0
IsAtOrAbove order k bound = IsAtOrBelow order bound k

-- the bounds are those of lines before an index that are made so, each with its index and the number of its variable
pub record AreBounds (make : ℕ → Dtv → Line) (lines : List Line) (count : ℕ) (named : List Dtv) (bounds : List Bound) : Type 0 where
  pub all : (i k : ℕ) (z : Dtv) → i < count → slice_get lines i ≡ Some (make k z) →
      (n : ℕ) × Contains bounds (record { line = i; constant = k; number = n }) × IsNumber named n z
  pub only : (b : Bound) → Contains bounds b →
      (z : Dtv) × (slice_get lines b.line ≡ Some (make b.constant z)) × IsNumber named b.number z

-- the line of an index is added, if it is made so
pub record IsBoundEntered (make : ℕ → Dtv → Line) (l : Line) (i : ℕ) (named : List Dtv) (old new : List Bound) : Type 0 where
  pub kept : (b : Bound) → Contains old b → Contains new b
  pub only : (b : Bound) → Contains new b → Contains old b ⊎
      ((z : Dtv) × (b.line ≡ i) × (l ≡ make b.constant z) × IsNumber named b.number z)
  pub added : (k : ℕ) (z : Dtv) → l ≡ make k z →
      (n : ℕ) × Contains new (record { line = i; constant = k; number = n }) × IsNumber named n z

-- the numbers are those of bounds that stand, whose constants are so
pub record AreBoundsAt (P : ℕ → Type 0) (stands : List Bool) (bounds : List Bound) (numbers : List ℕ) : Type 0 where
  pub only : (n : ℕ) → Contains numbers n → (b : Bound) × Contains bounds b ×
      (slice_index_or stands b.line false ≡ true) × P b.constant × (b.number ≡ n)
  pub all : (b : Bound) → Contains bounds b → slice_index_or stands b.line false ≡ true → P b.constant →
      Contains numbers b.number
