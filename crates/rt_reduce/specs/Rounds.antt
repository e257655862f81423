-- What comes before rounds, and parts of a round.
use Rattle.std.specs.Prelude.{ℕ, List}
use Rattle.rt_lines.specs.declared.variable.Base.TheVariants.{Exist}
use Rattle.rt_lines.specs.declared.line.Line.{Line}
use Rattle.rt_lines.specs.Orders.{Below}
use Rattle.rt_rules.specs.Laws.{NamesBase}
use Rattle.rt_reduction.specs.Emits.{IsEmitted}
use Rattle.rt_polar.specs.Tidied.{tidied}
use Rattle.rt_reduction.specs.Rounds.{Prepares, Splits}

-- a round whose shape is written anew; the lines after it name no other existentials
pub record IsBegun (lines after : List Line) : Type 0 where
  pub simple : List Line
  pub emitted : List Line
  pub is_simple : Prepares simple lines
  pub is_emitted : (order : Below) → IsEmitted order simple emitted
  pub named : (n : ℕ) → NamesBase after (Exist n) → NamesBase emitted (Exist n)

-- the lines over which rounds begin
pub record IsStart (lines start : List Line) : Type 0 where
  pub ready : List Line
  pub is_ready : Prepares ready (tidied lines)
  pub is_start : Splits start ready
