-- Shapes of lines that follow from lines that stand and those before them.
use Rattle.std.specs.Prelude.{◌≡◌, ◌⊎◌, ℕ, List, Bool, true, Contains, Some, slice_get}
use Rattle.rt_lines.specs.declared.variable.Dtv.{Dtv}
use Rattle.rt_lines.specs.declared.line.Line.{Line}
use Rattle.rt_lines.specs.declared.line.Line.TheVariants.{Sub}
use Rattle.rt_lines.specs.Orders.{Below}
use Rattle.rt_rules.specs.Rules.{Derivable}
use Rattle.rt_sure.specs.Fates.{flag_at, HasBefore}
use Rattle.rt_sure.specs.Shapes.{shape_of}

-- the line is a `<=` line
abbrev pub IsSubtype : Line → Type 0
IsSubtype l = (x : Dtv) × (y : Dtv) × (l ≡ Sub x y)

-- the line is one of the lines that are flagged
abbrev pub IsSureIn : List Line → List Bool → Line → Type 0
IsSureIn lines stays m = (j : ℕ) × (slice_get lines j ≡ Some m) × (flag_at stays j ≡ true)

-- each of the flags is one of the others
abbrev pub AreFewer : List Bool → List Bool → Type 0
AreFewer given stays = (j : ℕ) → flag_at given j ≡ true → flag_at stays j ≡ true

-- the shape of each line that is told to be joined follows from each list that has those that are flagged and those before it
abbrev pub AreJoined : List Line → List Bool → List Bool → Type 0
AreJoined lines stays joined =
    (order : Below) (i : ℕ) (l : Line) → slice_get lines i ≡ Some l → IsSubtype l → flag_at joined i ≡ true →
    (left : List Line) → ((m : Line) → IsSureIn lines stays m → Contains left m) → HasBefore lines i left →
    Derivable order left (shape_of l)

-- the line is the shape of one of the `<=` lines
abbrev pub IsShapeIn : List Line → Line → Type 0
IsShapeIn lines m = (l : Line) × Contains lines l × IsSubtype l × (shape_of l ≡ m)

-- each of the lines is one that is flagged, or the shape of a `<=` line
abbrev pub AreShaped : List Line → List Bool → List Line → Type 0
AreShaped lines stays shaped = (m : Line) → Contains shaped m → IsSureIn lines stays m ⊎ IsShapeIn lines m
