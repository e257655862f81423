-- Edges between numbered variables, as edges between the variables.
use Rattle.std.specs.Prelude.{ℕ, ◌<◌, ◌≢◌, ◌↔◌, List, AllPairs, Contains, Bool, true, false, ◌&&◌, nat_eq, length, slice_index_or}
use Rattle.std.specs.List.{list_any}
use Rattle.std.specs.Bool.{beq}
use Rattle.rt_lines.specs.declared.label.Variance.{Variance}
use Rattle.rt_lines.specs.declared.label.Variance.TheVariants.{Co, Contra}
use Rattle.rt_lines.specs.declared.variable.Dtv.{Dtv}
use Rattle.rt_lines.specs.Equality.{variable_eq}
use Rattle.rt_bridge.specs.Growing.{dv, vd}
use Rattle.rt_bridge.specs.Counted.{State, st}
use Rattle.rt_bridge.specs.Ways.{Way}
use Rattle.rt_bridge.specs.Laws.{Edge as EdgeOf}
use Rattle.rt_named.specs.Origins.{no_variable}
use Rattle.rt_sat.specs.declared.state.State.{State as Place}
use Rattle.rt_sat.specs.declared.state.Edge.{Edge}
use Rattle.rt_sat.specs.Searches.{Walk}

abbrev pub sign_of : Bool → Variance
sign_of true = Contra
sign_of false = Co

abbrev pub is_contra : Variance → Bool
is_contra Co = false
is_contra Contra = true

-- the variable of a number
abbrev pub at_number : List Dtv → ℕ → Dtv
at_number known n = slice_index_or known n no_variable

-- the state that a numbered one stands for
abbrev pub state_of : List Dtv → Place → State
state_of known s = st (vd (at_number known s.variable)) (sign_of s.contra)

-- whether a numbered state stands for a state
abbrev pub stands_for : List Dtv → Place → State → Bool
stands_for known s x = variable_eq (at_number known s.variable) (dv x.var) && beq s.contra (is_contra x.sign)

-- the edges that numbered ones stand for
abbrev pub edges_of : List Dtv → List Edge → State → State → ℕ → Bool
edges_of known edges x y k = list_any (λ (e : Edge). stands_for known e.from x && (stands_for known e.to y && nat_eq e.count k)) edges

-- no variable twice
abbrev pub AreDistinct : List Dtv → Type 0
AreDistinct known = AllPairs (λ x y. x ≢ y) known

-- the edges lead between numbers of variables
abbrev pub AreWithin : List Dtv → List Edge → Type 0
AreWithin known edges = (e : Edge) → Contains edges e → (e.from.variable < length known) × (e.to.variable < length known)

-- ways along numbered edges are those along the edges that they stand for
abbrev pub NumberedLaw : Type 0
NumberedLaw =
    (known : List Dtv) (edges : List Edge) → AreDistinct known → AreWithin known edges → (s t : Place) (k : ℕ) →
    s.variable < length known → t.variable < length known →
    Walk edges s t k ↔ Way (EdgeOf (edges_of known edges)) (state_of known s) (state_of known t) k
