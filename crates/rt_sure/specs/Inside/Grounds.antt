-- What tables tell of lines, by those that stay, shapes, and lines before an index.
use Rattle.std.specs.Prelude.{◌≡◌, ◌⊎◌, ℕ, ◌<◌, List, Bool, Contains, Some, slice_get}
use Rattle.rt_lines.specs.declared.line.Line.{Line}
use Rattle.rt_lines.specs.Orders.{Below}
use Rattle.rt_rules.specs.Rules.{Derivable}
use Rattle.rt_sat.specs.declared.increments.GrowingTable.{GrowingTable as Growing}
use Rattle.rt_sat.specs.Increments.{Tells}
use Rattle.rt_sure.specs.Inside.Shapes.{IsShapeIn, IsSureIn}

-- each of the lines is one that is flagged, or the shape of a `<=` line, or stands before an index
abbrev pub AreGroundTo : List Line → List Bool → ℕ → List Line → Type 0
AreGroundTo lines stays i those =
    (m : Line) → Contains those m → IsSureIn lines stays m ⊎ IsShapeIn lines m ⊎ ((j : ℕ) × (j < i) × (slice_get lines j ≡ Some m))

-- such lines derive each of the lines
abbrev pub AreToldTo : List Line → List Bool → ℕ → List Line → Type 0
AreToldTo lines stays i told =
    (order : Below) (m : Line) → Contains told m → (those : List Line) × AreGroundTo lines stays i those × Derivable order those m

-- such lines are what the table tells of
abbrev pub IsTold : List Line → List Bool → ℕ → Growing → Type 0
IsTold lines stays i growing = (told : List Line) × AreToldTo lines stays i told × Tells told growing
