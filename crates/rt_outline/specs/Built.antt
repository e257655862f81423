-- Outer arcs as they are built: first nodes and hubs, then the arcs of lines, then what is pushed.
use Rattle.std.specs.Prelude.{◌≡◌, ℕ, ◌≤◌, ◌++◌, List, Bool, true, Option, Some, length, slice_get}
use Rattle.rt_lines.specs.declared.variable.Dtv.{Dtv}
use Rattle.rt_lines.specs.declared.line.Line.{Line}
use Rattle.rt_named.specs.Naming.{named as named_by}
use Rattle.rt_named.specs.Nodes.{AreNodesOf, AreFlipsOf}
use Rattle.rt_shape.specs.Graphs.{Graph}
use Rattle.rt_shape.specs.Shapes.{IsShapeOf}
use Rattle.rt_outline.specs.declared.arc.Arc.{Arc}
use Rattle.rt_outline.specs.Arcs.{HasArc}
use Rattle.rt_outline.specs.Enclosing.{IsOuter}
use Rattle.rt_outline.specs.Frames.{Origins, AreOriginsOf, HavePointers, IsClosed}
use Rattle.rt_outline.specs.Hubs.{HasLowest, HaveHubs}
use Rattle.rt_outline.specs.Lines.{AreLineArcs}

-- the variables are those that the lines and some more name
abbrev pub AreNamed : List Line → List Dtv → Type 0
AreNamed lines named = (extra : List Dtv) × (named ≡ named_by lines extra)

-- the nodes of the variables with more behind them, and hubs; no arc is of a line
pub record HasHubs (named : List Dtv) (classes : List (Option ℕ)) (flips : List Bool) (origins : Origins)
    (arcs : List (List Arc)) : Type 0 where
  pub first : Origins
  pub more : Origins
  pub are : AreOriginsOf named first
  pub behind : origins ≡ first ++ more
  pub hubs : HaveHubs origins arcs classes flips
  pub none : (v w i : ℕ) → HasArc arcs v w (Some i) → ⊥

-- by nodes of the lines' shape
pub record IsHubbed (lines : List Line) (named : List Dtv) (origins : Origins) (arcs : List (List Arc)) : Type 0 where
  pub graph : Graph
  pub shape : IsShapeOf lines graph
  pub classes : List (Option ℕ)
  pub flips : List Bool
  pub classed : AreNodesOf graph named classes
  pub flagged : AreFlipsOf graph classes flips
  pub hubbed : HasHubs named classes flips origins arcs

-- there is a node for each variable, and the arcs, among them those of the lines, lead wherever a variable lies below another
pub record AreOuterArcs (lines : List Line) (named : List Dtv) (origins : Origins) (arcs : List (List Arc)) : Type 0 where
  pub nodes : length named ≤ length origins
  pub lines_all : AreLineArcs lines (length lines) named arcs
  pub outer : IsOuter lines named arcs

-- arcs of lines and pushed ones, with nodes of the variables first, a node with a load and a store below each that can be read and
-- written through, and whatever hubs
pub record IsLaid (lines : List Line) (named : List Dtv) (flips : List Bool) (origins : Origins) (arcs : List (List Arc)) : Type 0 where
  pub first : Origins
  pub more : Origins
  pub are : AreOriginsOf named first
  pub behind : origins ≡ first ++ more
  pub lowest : (n : ℕ) → slice_get flips n ≡ Some true → HasLowest origins arcs n
  pub lines_all : AreLineArcs lines (length lines) named arcs
  pub pointers : HavePointers origins arcs

-- so laid, and closed
pub record IsCrossed (lines : List Line) (named : List Dtv) (flips stands : List Bool) (origins : Origins) (arcs : List (List Arc)) : Type 0 where
  pub laid : IsLaid lines named flips origins arcs
  pub closed : IsClosed origins arcs stands

-- classes of the variables are nodes of the lines' shape, and flags say which can be read and written through
pub record IsSorted (lines : List Line) (named : List Dtv) (classes : List (Option ℕ)) (flips : List Bool) : Type 0 where
  pub graph : Graph
  pub shape : IsShapeOf lines graph
  pub classed : AreNodesOf graph named classes
  pub flagged : AreFlipsOf graph classes flips
