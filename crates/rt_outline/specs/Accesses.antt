-- Variables with more behind them that exist.
use Rattle.std.specs.Prelude.{◌≡◌, ◌++◌, List}
use Rattle.rt_lines.specs.declared.variable.Dtv.{Dtv}
use Rattle.rt_lines.specs.declared.line.Line.{Line}
use Rattle.rt_shape.specs.Graphs.{Graph}
use Rattle.rt_shape.specs.Shapes.{IsShapeOf}
use Rattle.rt_outline.specs.Enclosing.{AreThere}

-- the variables with more behind them, each of which exists by the lines
pub record AreThereBehind (lines : List Line) (old new : List Dtv) : Type 0 where
  pub more : List Dtv
  pub behind : new ≡ old ++ more
  pub there : AreThere lines more

-- by lines that have the shape
pub record AreAdded (graph : Graph) (old new : List Dtv) : Type 0 where
  pub more : List Dtv
  pub behind : new ≡ old ++ more
  pub there : (lines : List Line) → IsShapeOf lines graph → AreThere lines more
