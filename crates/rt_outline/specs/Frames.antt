-- Nodes, of which some are made of others, and what closed arcs between them have.
use Rattle.std.specs.Prelude.{◌≡◌, ℕ, ◌<◌, ◌⊎◌, ◌++◌, List, [], Bool, true, Option, Some, None, length, slice_get, slice_index_or}
use Rattle.std.specs.Map.{lookup}
use Rattle.rt_lines.specs.declared.label.Label.{Label}
use Rattle.rt_lines.specs.declared.label.Label.TheVariants.{Load, Store}
use Rattle.rt_lines.specs.declared.label.Variance.TheVariants.{Co, Contra}
use Rattle.rt_lines.specs.Words.{label_variance}
use Rattle.rt_lines.specs.declared.variable.Dtv.{Dtv}
use Rattle.rt_rules.specs.Rules.{longer}
use Rattle.rt_named.specs.Origins.{no_variable}
use Rattle.rt_named.specs.declared.origin.Origin.{Origin}
use Rattle.rt_named.specs.declared.origin.Origin.TheVariants.{Bare, Longer}
use Rattle.rt_components.specs.Groups.{Reaches}
use Rattle.rt_shape.specs.Graphs.{letter_eq}
use Rattle.rt_outline.specs.declared.arc.Arc.{Arc}
use Rattle.rt_outline.specs.Arcs.{AreTurned, HasArc, Leads}

-- what each node is made of, if it is made of another one with a letter
abbrev pub Origins : Type 0
Origins = List (Option (ℕ × Label))

-- the node is the other one with the letter more
abbrev pub IsMade : Origins → ℕ → ℕ → Label → Type 0
IsMade origins n p l = slice_get origins n ≡ Some (Some (p, l))

-- there is no node of that origin
abbrev pub IsFresh : Origins → Option (ℕ × Label) → Type 0
IsFresh origins origin = (n p : ℕ) (l : Label) → origin ≡ Some (p, l) → IsMade origins n p l → ⊥

-- the node with a letter more
abbrev pub step_of : List ((ℕ × Label) × ℕ) → ℕ → Label → Option ℕ
step_of steps p l = lookup (letter_eq (p, l)) steps

-- the step is set to a node, if it is of that origin, and else is as it was
abbrev pub IsSetAt : Option (ℕ × Label) → ℕ → ℕ → Label → List ((ℕ × Label) × ℕ) →
    List ((ℕ × Label) × ℕ) → Type 0
IsSetAt origin node p l old new = ((origin ≡ Some (p, l)) × (step_of new p l ≡ Some node)) ⊎
    ((origin ≡ Some (p, l) → ⊥) × (step_of new p l ≡ step_of old p l))

-- each node has its step from what it is made of, and arcs lead to nodes; the same arcs stand the other way beside them
pub record IsFrame (origins : Origins) (steps : List ((ℕ × Label) × ℕ)) (arcs back : List (List Arc)) : Type 0 where
  pub few : length origins < 4294967296
  pub each : length arcs ≡ length origins
  pub each_back : length back ≡ length origins
  pub made : (n p : ℕ) (l : Label) → IsMade origins n p l → step_of steps p l ≡ Some n
  pub only : (n p : ℕ) (l : Label) → step_of steps p l ≡ Some n → IsMade origins n p l
  pub below : (n p : ℕ) (l : Label) → IsMade origins n p l → p < length origins
  pub within : (v w : ℕ) (line : Option ℕ) → HasArc arcs v w line → w < length origins
  pub turned : AreTurned arcs back

-- one node is pushed to another: both are made by one letter, and by its sign a way leads between what they are made of
pub data IsPushed (origins : Origins) (Edge : ℕ → ℕ → Type 0) (v w : ℕ) : Type 0 where
  co : {p q : ℕ} {l : Label} → label_variance l ≡ Co → IsMade origins v p l → IsMade origins w q l →
      Reaches Edge p q → IsPushed origins Edge v w
  contra : {p q : ℕ} {l : Label} → label_variance l ≡ Contra → IsMade origins v p l → IsMade origins w q l →
      Reaches Edge q p → IsPushed origins Edge v w

-- ways of pushed arcs lead from one node to all that it is pushed to from ways of any arcs
abbrev pub IsClosedAt : Origins → List (List Arc) → List Bool → ℕ → Type 0
IsClosedAt origins arcs stands v = (w : ℕ) → IsPushed origins (Leads arcs stands true) v w → Reaches (Leads arcs [] true) v w

-- from each node
abbrev pub IsClosed : Origins → List (List Arc) → List Bool → Type 0
IsClosed origins arcs stands = (v : ℕ) → IsClosedAt origins arcs stands v

-- the arcs have these and more
abbrev pub AreKept : List (List Arc) → List (List Arc) → Type 0
AreKept old new = (v w : ℕ) (line : Option ℕ) → HasArc old v w line → HasArc new v w line

-- the arcs of lines are the same
abbrev pub AreLinesKept : List (List Arc) → List (List Arc) → Type 0
AreLinesKept old new = (v w i : ℕ) → HasArc new v w (Some i) → HasArc old v w (Some i)

-- what ways of the first arcs, and what is pushed from such ways, lead to
pub data Ways (origins : Origins) (Edge : ℕ → ℕ → Type 0) : ℕ → ℕ → Type 0 where
  arc : {v w : ℕ} → Edge v w → Ways origins Edge v w
  stay : {v : ℕ} → Ways origins Edge v v
  chain : {u v w : ℕ} → Ways origins Edge u v → Ways origins Edge v w → Ways origins Edge u w
  co : {v w p q : ℕ} {l : Label} → label_variance l ≡ Co → IsMade origins v p l → IsMade origins w q l →
      Ways origins Edge p q → Ways origins Edge v w
  contra : {v w p q : ℕ} {l : Label} → label_variance l ≡ Contra → IsMade origins v p l → IsMade origins w q l →
      Ways origins Edge q p → Ways origins Edge v w

-- each arc is of such a way
abbrev pub AreOfWays : Origins → List (List Arc) → List (List Arc) → List Bool → Type 0
AreOfWays origins old new stands = (v w : ℕ) → Leads new stands true v w → Ways origins (Leads old stands true) v w

-- arcs with more, each of which is of ways of the others
pub record IsPushedMore (origins : Origins) (stands : List Bool) (old new : List (List Arc)) : Type 0 where
  pub kept : AreKept old new
  pub lines : AreLinesKept old new
  pub ways : AreOfWays origins old new stands

-- the nodes are the store and the load of one
abbrev pub IsPointerPair : Origins → ℕ → ℕ → Type 0
IsPointerPair origins v w = (p : ℕ) × IsMade origins v p Store × IsMade origins w p Load

-- from the store to the load of a node, if it has both, there is a pushed arc
abbrev pub HavePointersAt : Origins → List (List Arc) → ℕ → Type 0
HavePointersAt origins arcs p = (v w : ℕ) → IsMade origins v p Store → IsMade origins w p Load → HasArc arcs v w None

-- of each node
abbrev pub HavePointers : Origins → List (List Arc) → Type 0
HavePointers origins arcs = (p : ℕ) → HavePointersAt origins arcs p

-- the pushed arcs are the same
abbrev pub ArePushedKept : List (List Arc) → List (List Arc) → Type 0
ArePushedKept old new = (v w : ℕ) → HasArc new v w None → HasArc old v w None

-- arcs more, each of a pair of which something holds
abbrev pub AreMore : (ℕ → ℕ → Type 0) → List (List Arc) → List (List Arc) → Type 0
AreMore P old new = (v w : ℕ) (line : Option ℕ) → HasArc new v w line → HasArc old v w line ⊎ ((line ≡ None) × P v w)

-- what a variable is made of
abbrev pub origin_of : Origin → Option (ℕ × Label)
origin_of (Bare b) = None
origin_of (Longer n l) = Some (n, l)

-- the variable of a number
abbrev pub variable_at : List Dtv → ℕ → Dtv
variable_at named n = slice_index_or named n no_variable

-- the nodes are the numbers of the variables before a number, and what one is made of with a letter its variable is; one that is made
-- of none has no letter
pub record AreOriginsTo (named : List Dtv) (count : ℕ) (origins : Origins) : Type 0 where
  pub each : length origins ≡ count
  pub bare : (n : ℕ) → slice_get origins n ≡ Some None → (variable_at named n).word ≡ []
  pub only : (n p : ℕ) (l : Label) → IsMade origins n p l → (p < n) × (variable_at named n ≡ longer (variable_at named p) l)

-- of all variables
abbrev pub AreOriginsOf : List Dtv → Origins → Type 0
AreOriginsOf named origins = AreOriginsTo named (length named) origins

-- no two numbers are of one variable
abbrev pub AreDistinct : List Dtv → Type 0
AreDistinct named = (i j : ℕ) → i < length named → j < length named → variable_at named i ≡ variable_at named j → i ≡ j

-- nodes with more behind them, and the same arcs
pub record IsStepped (old : Origins) (arcs : List (List Arc)) (new : Origins) (next : List (List Arc)) : Type 0 where
  pub more : Origins
  pub behind : new ≡ old ++ more
  pub kept : (v w : ℕ) (line : Option ℕ) → HasArc arcs v w line → HasArc next v w line
  pub same : (v w : ℕ) (line : Option ℕ) → HasArc next v w line → HasArc arcs v w line
