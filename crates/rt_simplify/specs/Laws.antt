-- The laws that the functions of `laws` state.
use Rattle.std.specs.Prelude.{◌≡◌, List}
use Rattle.rt_lines.specs.declared.line.Line.{Line}
use Rattle.rt_lines.specs.Orders.{Below}
use Rattle.rt_polar.specs.Tidied.{tidied}
use Rattle.rt_reduction.specs.Rounds.{IsRound}

-- tidied lines stay as they are, when they are tidied
abbrev pub TidiedTwiceLaw : Type 0
TidiedTwiceLaw = (lines : List Line) → tidied (tidied lines) ≡ tidied lines

-- so does what a round leaves
abbrev pub RoundTidiedLaw : Type 0
RoundTidiedLaw = (order : Below) (lines after : List Line) → IsRound order lines after → tidied after ≡ after
