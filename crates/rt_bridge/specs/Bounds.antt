-- Bounds by constants that lines reach.
use Rattle.std.specs.Prelude.{ℕ, List, Contains}
use Rattle.rt_lines.specs.declared.line.Line.{Line}
use Rattle.rt_lines.specs.declared.line.Line.TheVariants.{Sub, Low, Up}
use Rattle.rt_lines.specs.declared.variable.Dtv.{Dtv}
use Rattle.rt_lines.specs.Orders.{Below, IsAtOrBelow}
use Rattle.rt_rules.specs.Rules.{Derivable}

-- a lower bound of a line, at or above the constant, whose variable lies below x
pub record HasLow (order : Below) (lines : List Line) (k : ℕ) (x : Dtv) : Type 0 where
  pub bound : ℕ
  pub variable : Dtv
  pub stands : Contains lines (Low bound variable)
  pub at : IsAtOrBelow order k bound
  pub below : Derivable order lines (Sub variable x)

-- an upper bound of a line, at or below the constant, whose variable lies above x
pub record HasUp (order : Below) (lines : List Line) (x : Dtv) (k : ℕ) : Type 0 where
  pub bound : ℕ
  pub variable : Dtv
  pub stands : Contains lines (Up variable bound)
  pub at : IsAtOrBelow order bound k
  pub above : Derivable order lines (Sub x variable)
