-- Arcs between numbered variables that say which lie below which, also when lines are left out.
use Rattle.std.specs.Prelude.{◌≡◌, ℕ, ◌<◌, List, Bool, true, Some, None, length, slice_get}
use Rattle.rt_lines.specs.declared.variable.Dtv.{Dtv}
use Rattle.rt_lines.specs.declared.line.Line.{Line}
use Rattle.rt_lines.specs.declared.line.Line.TheVariants.{Sub}
use Rattle.rt_lines.specs.Orders.{Below}
use Rattle.rt_rules.specs.Rules.{Derivable}
use Rattle.rt_components.specs.Groups.{Reaches}
use Rattle.rt_outline.specs.declared.arc.Arc.{Arc}
use Rattle.rt_outline.specs.Arcs.{HasArc, Leads}
use Rattle.rt_outline.specs.Lines.{IsLineArc, standing}
use Rattle.rt_sat.specs.declared.state.Edge.{Edge}
use Rattle.rt_sat.specs.Numbered.{at_number}
use Rattle.rt_equals.specs.Plain.{HasPlain}

-- where one variable lies below another by the lines that stand, arcs of these and pushed ones lead from one to the other
abbrev pub AreAround : List Line → List Dtv → List (List Arc) → Type 0
AreAround lines named arcs = (order : Below) (stands : List Bool) (v w : ℕ) → v < length named → w < length named →
    Derivable order (standing lines stands) (Sub (at_number named v) (at_number named w)) → Reaches (Leads arcs stands true) v w

-- where arcs lead from one variable to another, it lies below the other by all lines
abbrev pub AreInside : List Line → List Dtv → List (List Arc) → Type 0
AreInside lines named arcs = (order : Below) (stands : List Bool) (v w : ℕ) → v < length named → w < length named →
    Reaches (Leads arcs stands true) v w → Derivable order lines (Sub (at_number named v) (at_number named w))

-- arcs of the subtype lines before an index, and pushed ones for edges of count nought
pub record AreArcs (lines : List Line) (count : ℕ) (named : List Dtv) (edges : List Edge) (arcs : List (List Arc)) : Type 0 where
  pub each : length arcs ≡ length named
  pub all : (i : ℕ) (x y : Dtv) → i < count → slice_get lines i ≡ Some (Sub x y) →
      (v : ℕ) × (w : ℕ) × (slice_get named v ≡ Some x) × (slice_get named w ≡ Some y) × HasArc arcs v w (Some i)
  pub only : (v w i : ℕ) → HasArc arcs v w (Some i) → IsLineArc lines named v w i
  pub pushed : (v w : ℕ) → HasPlain edges v w → HasArc arcs v w None
  pub pushed_only : (v w : ℕ) → HasArc arcs v w None → HasPlain edges v w
