-- What inner and outer arcs say.
use Rattle.std.specs.Prelude.{ℕ, ◌<◌, List, Contains, Bool, true, length}
use Rattle.rt_lines.specs.declared.variable.Dtv.{Dtv}
use Rattle.rt_lines.specs.declared.line.Line.{Line}
use Rattle.rt_lines.specs.declared.line.Line.TheVariants.{Sub, Var}
use Rattle.rt_lines.specs.Orders.{Below}
use Rattle.rt_rules.specs.Rules.{Derivable}
use Rattle.rt_components.specs.Groups.{Reaches}
use Rattle.rt_outline.specs.declared.arc.Arc.{Arc}
use Rattle.rt_outline.specs.Arcs.{Leads}
use Rattle.rt_outline.specs.Frames.{variable_at}
use Rattle.rt_outline.specs.Lines.{standing}

-- each of the variables exists
abbrev pub AreThere : List Line → List Dtv → Type 0
AreThere lines extra = (order : Below) (x : Dtv) → Contains extra x → Derivable order lines (Var x)

-- where arcs lead from one variable to another it lies below the other by the lines
abbrev pub IsInner : List Line → List Dtv → List (List Arc) → List Bool → Type 0
IsInner lines named arcs stands = (order : Below) (v w : ℕ) → v < length named → w < length named →
    Reaches (Leads arcs stands true) v w →
    Derivable order lines (Sub (variable_at named v) (variable_at named w))

-- where a variable lies below another by the lines that stand, arcs of these and pushed ones lead from one to the other
abbrev pub IsOuter : List Line → List Dtv → List (List Arc) → Type 0
IsOuter lines named arcs = (order : Below) (stands : List Bool) (v w : ℕ) → v < length named → w < length named →
    Derivable order (standing lines stands) (Sub (variable_at named v) (variable_at named w)) → Reaches (Leads arcs stands true) v w
