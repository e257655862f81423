-- What is told of lines, which can be asked with lines that stand.
use Rattle.std.specs.Prelude.{◌≡◌, ℕ, ◌∷◌, List, Bool, Contains, true, Some, slice_get}
use Rattle.rt_lines.specs.declared.line.Line.{Line}
use Rattle.rt_lines.specs.Orders.{Below}
use Rattle.rt_shape.specs.Graphs.{Graph}
use Rattle.rt_shape.specs.Shapes.{IsShapeOf}
use Rattle.rt_sat.specs.declared.increments.GrowingTable.{GrowingTable as Growing}
use Rattle.rt_sat.specs.declared.increments.Snapshot.{Snapshot}
use Rattle.rt_sat.specs.Increments.{Tells, Told}
use Rattle.rt_sure.specs.Fates.{flag_at, DerivesAll, HasBefore}
use Rattle.rt_sure.specs.Inside.Shapes.{IsSubtype}

-- what a table tells is derived by the lines
pub record IsTableOf (lines : List Line) (growing : Growing) : Type 0 where
  pub told : List Line
  pub derived : (order : Below) → DerivesAll order lines told
  pub tells : Tells told growing

-- lines, and which of them stay
pub record Grounded : Type 0 where
  pub lines : List Line
  pub stays : List Bool

-- the list has each line that is flagged
abbrev pub HasFlagged : List Line → List Bool → List Line → Type 0
HasFlagged lines flags left = (j : ℕ) (m : Line) → slice_get lines j ≡ Some m → flag_at flags j ≡ true → Contains left m

-- a shape of lines that are flagged
pub record HasShape (lines : List Line) (flags : List Bool) (graph : Graph) : Type 0 where
  pub sure : List Line
  pub flagged : (l : Line) → Contains sure l → (j : ℕ) × (slice_get lines j ≡ Some l) × (flag_at flags j ≡ true)
  pub shape : IsShapeOf sure graph

-- what a table told at a time is derived by each list that has those that stay and those before a `<=` line, if this is joined,
-- and that, with it, derives all
pub record IsGround (lines : List Line) (stays joined : List Bool) (base : Snapshot) (growing : Growing) : Type 0 where
  pub told : List Line
  pub tells : Told told base growing
  pub derived : (order : Below) (i : ℕ) (l : Line) → slice_get lines i ≡ Some l → IsSubtype l → flag_at joined i ≡ true →
      (left : List Line) → HasFlagged lines stays left → HasBefore lines i left → DerivesAll order (l ∷ left) lines →
      DerivesAll order left told
