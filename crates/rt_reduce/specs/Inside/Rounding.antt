-- The two halves of a round.
use Rattle.std.specs.Prelude.{ℕ, List, [], All, Contains}
use Rattle.rt_lines.specs.declared.variable.Base.TheVariants.{Exist}
use Rattle.rt_lines.specs.declared.line.Line.{Line}
use Rattle.rt_lines.specs.Lines.{HasConstantsBelow}
use Rattle.rt_lines.specs.Orders.{Below}
use Rattle.rt_rules.specs.Laws.{NamesBase}
use Rattle.rt_reduction.specs.Drops.{Drops}
use Rattle.rt_reduction.specs.Emits.{AreOfScheme, IsEmitted}
use Rattle.rt_reduction.specs.Merges.{Merges}
use Rattle.rt_reduction.specs.Rounds.{Prepares}

-- the lines are prepared, and their shape is written anew
pub record IsWritten (lines written : List Line) : Type 0 where
  pub simple : List Line
  pub is_simple : Prepares simple lines
  pub is_written : (order : Below) → IsEmitted order simple written

-- existentials that equal a side give their places to it, and then each line goes that the others derive
pub record IsLeftOf (order : Below) (lines after : List Line) : Type 0 where
  pub merged : List Line
  pub is_merged : Merges order merged lines
  pub is_dropped : Drops order [] merged after
  pub stood : (l : Line) → Contains after l → Contains merged l
  pub named : (n : ℕ) → NamesBase merged (Exist n) → NamesBase lines (Exist n)
  pub scheme : AreOfScheme lines → AreOfScheme merged
  pub constants : All (HasConstantsBelow order.count) merged
