-- Twins in each other's places.
use Rattle.std.specs.Prelude.{◌≡◌, ◌≢◌, ℕ, List}
use Rattle.rt_lines.specs.declared.label.Variance.{Variance}
use Rattle.rt_lines.specs.declared.line.Line.{Line}
use Rattle.rt_refine.specs.Refinements.{refined}
use Rattle.rt_twins.specs.Twinnings.{IsCoarsestTwinning}
use Rattle.rt_reduction.specs.Simplifies.{IsTurnOf}

-- all twins of the sign whose turn it is became one
pub record BecomeOne (lines merged : List Line) : Type 0 where
  pub sign : Variance
  pub class : ℕ → ℕ
  pub w : ℕ
  pub turn : IsTurnOf sign lines
  pub coarsest : IsCoarsestTwinning sign lines class
  pub some : class w ≢ w
  pub is : merged ≡ refined class lines
