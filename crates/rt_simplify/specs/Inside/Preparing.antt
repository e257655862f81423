-- The first steps of what prepares lines.
use Rattle.std.specs.Prelude.{List}
use Rattle.rt_lines.specs.declared.line.Line.{Line}
use Rattle.rt_reduction.specs.Simplifies.{Simplifies}
use Rattle.rt_reduction.specs.Rounds.{Refines}

-- existentials that are used alike became one, places were given away, and twins became one
abbrev pub IsOnce : List Line → List Line → Type 0
IsOnce lines left = (between : List Line) × Refines lines between × Simplifies left between
