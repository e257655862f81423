-- Variables of which a table has each below the other.
use Rattle.std.specs.Prelude.{◌≡◌, ℕ, ◌<◌, List, Option, Some, None, length, slice_get, slice_index_or}
use Rattle.rt_lines.specs.declared.variable.Dtv.{Dtv}
use Rattle.rt_lines.specs.declared.line.Line.{Line}
use Rattle.rt_lines.specs.declared.line.Line.TheVariants.{Sub}
use Rattle.rt_lines.specs.Orders.{Below}
use Rattle.rt_rules.specs.Rules.{Derivable}
use Rattle.rt_sat.specs.declared.increments.GrowingTable.{GrowingTable}
use Rattle.rt_sat.specs.Increments.{named_of, Tells}

-- the variables of two numbers lie below each other by the lines of which a table tells
abbrev pub IsJoined : GrowingTable → ℕ → ℕ → Type 0
IsJoined growing i j = (order : Below) (lines : List Line) (x y : Dtv) → Tells lines growing →
    slice_get (named_of growing) i ≡ Some x → slice_get (named_of growing) j ≡ Some y →
    Derivable order lines (Sub x y) × Derivable order lines (Sub y x)

-- those before an index lie so with what their numbers are marked with, which is one of them
abbrev pub AreJoined : GrowingTable → List ℕ → ℕ → List (Option ℕ) → Type 0
AreJoined growing numbers count marks = (j m : ℕ) → j < count →
    slice_index_or marks (slice_index_or numbers j 0) None ≡ Some m → (m < length numbers) × IsJoined growing m j
