-- Ways of arcs of lines that stand, and of pushed arcs that rest on such ways.
use Rattle.std.specs.Prelude.{◌≡◌, ℕ, ◌⊎◌, List, Contains, Bool, false}
use Rattle.rt_lines.specs.declared.label.Label.{Label}
use Rattle.rt_lines.specs.declared.label.Label.TheVariants.{Load, Store}
use Rattle.rt_lines.specs.declared.label.Variance.TheVariants.{Co, Contra}
use Rattle.rt_lines.specs.Words.{label_variance}
use Rattle.rt_lines.specs.declared.variable.Dtv.{Dtv}
use Rattle.rt_lines.specs.declared.line.Line.{Line}
use Rattle.rt_lines.specs.declared.line.Line.TheVariants.{Sub, Var}
use Rattle.rt_lines.specs.Orders.{Below}
use Rattle.rt_rules.specs.Rules.{Derivable, longer}
use Rattle.rt_outline.specs.declared.arc.Arc.{Arc}
use Rattle.rt_outline.specs.declared.resting.Kept.{Kept}
use Rattle.rt_outline.specs.Arcs.{Leads}
use Rattle.rt_outline.specs.Frames.{variable_at}
use Rattle.rt_outline.specs.Lines.{AreLineArcs, standing}

-- by those that stand of the lines that have these arcs, a variable lies below another if one of the two exists
abbrev pub Rests : List Dtv → List (List Arc) → List Bool → ℕ → ℕ → Type 0
Rests named arcs stands v w = (lines : List Line) (count : ℕ) (order : Below) → AreLineArcs lines count named arcs →
    Derivable order (standing lines stands) (Var (variable_at named v)) ⊎
    Derivable order (standing lines stands) (Var (variable_at named w)) →
    Derivable order (standing lines stands) (Sub (variable_at named v) (variable_at named w))

-- it lies so below each that is found
abbrev pub AreRested : List Dtv → List (List Arc) → List Bool → ℕ → List ℕ → Type 0
AreRested named arcs stands v found = (w : ℕ) → Contains found w → Rests named arcs stands v w

-- what is kept of each source is so
abbrev pub AreKnown : List Dtv → List (List Arc) → List Bool → List Kept → Type 0
AreKnown named arcs stands known = (k : Kept) → Contains known k → AreRested named arcs stands k.source k.found

-- where the first of the pair lies so below the second, one variable lies so below the other
abbrev pub IsBehind : List Dtv → ℕ → ℕ → ℕ × ℕ → Type 0
IsBehind named v w pair = (arcs : List (List Arc)) (stands : List Bool) → Rests named arcs stands pair.0 pair.1 →
    Rests named arcs stands v w

-- those that were found, and some that a variable lies so below
abbrev pub AreMoreRested : List Dtv → List (List Arc) → List Bool → ℕ → List ℕ → List ℕ → Type 0
AreMoreRested named arcs stands v old new = (w : ℕ) → Contains new w → Contains old w ⊎ Rests named arcs stands v w

-- by those that stand of the lines that have these arcs, a variable lies below one of the others
abbrev pub IsBelowSome : List Dtv → List (List Arc) → List Bool → ℕ → List ℕ → Type 0
IsBelowSome named arcs stands v targets = (lines : List Line) (count : ℕ) (order : Below) →
    AreLineArcs lines count named arcs → (t : ℕ) × Contains targets t ×
    Derivable order (standing lines stands) (Sub (variable_at named v) (variable_at named t))

-- one of the variables does
abbrev pub AreBelowSome : List Dtv → List (List Arc) → List Bool → List ℕ → List ℕ → Type 0
AreBelowSome named arcs stands sources targets = (s : ℕ) × Contains sources s × IsBelowSome named arcs stands s targets

-- the numbers, the other way round where the letter turns the order round
abbrev pub IsOrdered : Label → ℕ → ℕ → ℕ × ℕ → Type 0
IsOrdered l p q pair = ((label_variance l ≡ Co) × (pair.0 ≡ p) × (pair.1 ≡ q)) ⊎
    ((label_variance l ≡ Contra) × (pair.0 ≡ q) × (pair.1 ≡ p))

-- a side of a line that stands
abbrev pub IsSide : List (List Arc) → List Bool → ℕ → Type 0
IsSide arcs stands v = (w : ℕ) × (Leads arcs stands false v w ⊎ Leads arcs stands false w v)

-- the store and the load of one variable
abbrev pub IsPointer : List Dtv → ℕ → ℕ → Type 0
IsPointer named v w = (p : ℕ) × (variable_at named v ≡ longer (variable_at named p) Store) ×
    (variable_at named w ≡ longer (variable_at named p) Load)
