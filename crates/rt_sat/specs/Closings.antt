-- Numbered edges of subtype lines, and the table that they are with all that is pushed from them.
use Rattle.std.specs.Prelude.{◌≡◌, ◌⊎◌, ℕ, List, Contains, Bool}
use Rattle.rt_lines.specs.declared.label.Label.{Label}
use Rattle.rt_lines.specs.declared.label.Variance.{Variance}
use Rattle.rt_lines.specs.declared.label.Variance.TheVariants.{Co, Contra}
use Rattle.rt_lines.specs.declared.variable.Dtv.{Dtv}
use Rattle.rt_lines.specs.declared.line.Line.{Line}
use Rattle.rt_lines.specs.declared.line.Line.TheVariants.{Sub}
use Rattle.rt_lines.specs.Words.{label_variance, times}
use Rattle.rt_bridge.specs.Growing.{Var, dot, vd, Given, V, Der}
use Rattle.rt_bridge.specs.Counted.{State, st, Push, Bridge}
use Rattle.rt_bridge.specs.Ways.{Way, WayIn, HasLines}
use Rattle.rt_bridge.specs.Laws.{Named, AreNamed, Edge as EdgeOf}
use Rattle.rt_shape.specs.Graphs.{Graph}
use Rattle.rt_sat.specs.declared.state.Edge.{Edge}
use Rattle.rt_sat.specs.Deciding.{is_among}
use Rattle.rt_sat.specs.Numbered.{state_of, edges_of, AreDistinct, AreWithin}
use Rattle.rt_sat.specs.Pushes.{IsFrame, IsClosing}
use Rattle.rt_sat.specs.Mattering.{Matters, AreMattering}

-- the numbered edge is that of the states, and counts nought
pub record IsEdgeOf (known : List Dtv) (e : Edge) (x y : State) : Type 0 where
  pub start : state_of known e.from ≡ x
  pub end : state_of known e.to ≡ y
  pub none : e.count ≡ 0

-- an edge of a subtype line, or of one turned round
abbrev pub IsLineEdge : List Dtv → Dtv → Dtv → Edge → Type 0
IsLineEdge known x y e = IsEdgeOf known e (st (vd x) Co) (st (vd y) Co) ⊎ IsEdgeOf known e (st (vd y) Contra) (st (vd x) Contra)

-- the edges are those of the subtype lines, and of them turned round
pub record AreLineEdges (lines : List Line) (known : List Dtv) (edges : List Edge) : Type 0 where
  pub forth : (x y : Dtv) → Contains lines (Sub x y) → (e : Edge) × Contains edges e × IsEdgeOf known e (st (vd x) Co) (st (vd y) Co)
  pub back : (x y : Dtv) → Contains lines (Sub x y) →
      (e : Edge) × Contains edges e × IsEdgeOf known e (st (vd y) Contra) (st (vd x) Contra)
  pub only : (e : Edge) → Contains edges e → (x : Dtv) × (y : Dtv) × Contains lines (Sub x y) × IsLineEdge known x y e
  pub within : AreWithin known edges

-- whatever is pushed from a way has a way, if it counts nought or counts matter at its start
abbrev pub IsClosedWhere : (State → State → ℕ → Type 0) → Given → (Var → Type 0) → (Var → Type 0) → Type 0
IsClosedWhere Step L M Matter =
    (x y : Var) (l m : Label) (a b : Variance) (d k : ℕ) → (k ≡ 0) ⊎ Matter (dot x l) → M (dot x l) → M (dot y m) →
    Der L (V (dot x l)) → Der L (V (dot y m)) →
    Way Step (st x (times (label_variance l) a)) (st y (times (label_variance m) b)) d → Push L x l m d a b k →
    WayIn Step (st (dot x l) a) (st (dot y m) b) k

-- each edge is a counted judgement, the subtype lines are edges, and what is pushed has a way if it counts nought or counts matter there
pub record IsTableWhere (L : Given) (M Matter : Var → Type 0) (Step : State → State → ℕ → Type 0) : Type 0 where
  pub sound : (x y : State) (k : ℕ) → Step x y k → Bridge L M x y k
  pub lines : HasLines Step L
  pub closed : IsClosedWhere Step L M Matter

-- the edges of the subtype lines, with what is pushed from their ways, are a table as far as counts matter
abbrev pub ClosingLaw : Type 0
ClosingLaw =
    (L : Given) (known : List Dtv) (graph : Graph) (marks flips matters : List Bool) (lines edges : List Edge) →
    AreNamed L (is_among known) → AreDistinct known → IsFrame L known flips → AreMattering graph marks known matters →
    AreLineEdges L.lines known lines → IsClosing known flips matters lines edges →
    IsTableWhere L (Named (is_among known)) (Matters graph marks) (EdgeOf (edges_of known edges))

-- the two edges of a subtype line are put behind others
pub record IsLineEntered (known : List Dtv) (x y : Dtv) (old new : List Edge) : Type 0 where
  pub kept : (e : Edge) → Contains old e → Contains new e
  pub forth : (e : Edge) × Contains new e × IsEdgeOf known e (st (vd x) Co) (st (vd y) Co)
  pub back : (e : Edge) × Contains new e × IsEdgeOf known e (st (vd y) Contra) (st (vd x) Contra)
  pub only : (e : Edge) → Contains new e → Contains old e ⊎ IsLineEdge known x y e
  pub within : AreWithin known old → AreWithin known new
