-- What is told of states by the edges of lines and what is pushed from their ways, in tables of classes.
use Rattle.std.specs.Prelude.{◌≡◌, ℕ, ◌+◌, ◌*◌, ◌/◌, ◌%◌, ◌<◌, ◌≤◌, ◌⊎◌, true, false, List, [], All, Contains, Bool, Option, Some, None, length, nat_eq, slice_index_or}
use Rattle.rt_lines.specs.declared.label.Label.{Label}
use Rattle.rt_lines.specs.declared.label.Variance.{Variance}
use Rattle.rt_lines.specs.declared.variable.Dtv.{Dtv}
use Rattle.rt_bridge.specs.Growing.{Var, Given, HasSub}
use Rattle.rt_bridge.specs.Counted.{Bridge}
use Rattle.rt_bridge.specs.Laws.{Named}
use Rattle.rt_grid.specs.Tables.{Table, count_at, size_of, steps_of, Holds}
use Rattle.rt_grid.specs.declared.grid.Step.{Step}
use Rattle.rt_sat.specs.declared.state.State.{State}
use Rattle.rt_sat.specs.declared.state.Edge.{Edge}
use Rattle.rt_sat.specs.declared.family.Family.{Family}
use Rattle.rt_sat.specs.declared.family.Home.{Home}
use Rattle.rt_sat.specs.declared.gathering.Kid.{Kid}
use Rattle.rt_sat.specs.declared.gathering.Group.{Group}
use Rattle.rt_sat.specs.declared.gathering.End.{End}
use Rattle.rt_sat.specs.Deciding.{is_among}
use Rattle.rt_sat.specs.Numbered.{state_of}
use Rattle.rt_sat.specs.Pushes.{flip_at, AreSound, IsChildOf, IsInFrame, PushBy}

-- the count between the states is a counted judgement, wherever the edges of lines are
abbrev pub IsTold : List Dtv → List Bool → List Edge → State → State → ℕ → Type 0
IsTold known flips lines s t k = (L : Given) → IsInFrame L known flips →
    ((x y : Var) → HasSub L x y → Named (is_among known) x × Named (is_among known) y) → AreSound L known lines →
    Bridge L (Named (is_among known)) (state_of known s) (state_of known t) k

-- the edges are counted judgements, wherever those of lines are
abbrev pub AreTold : List Dtv → List Bool → List Edge → List Edge → Type 0
AreTold known flips lines edges = (e : Edge) → Contains edges e → IsTold known flips lines e.from e.to e.count

-- the state at a place of a class: two for each member, the second one with the order turned round
abbrev pub state_at : List ℕ → ℕ → State
state_at members place = record { variable = slice_index_or members (place / 2) 0; contra = nat_eq (place % 2) 1 }

-- the members of a class, and what is known of them
abbrev pub members_of : Family → ℕ → List ℕ
members_of family class = slice_index_or family.members.items class []

abbrev pub no_table : Table
no_table = record { rows = []; steps = [] }

abbrev pub grid_of : Family → ℕ → Table
grid_of family class = slice_index_or family.grids.items class no_table

-- no class has more members
abbrev pub most_members : ℕ
most_members = 6000

-- a grid for each class, with two places for each member, all of which are numbers of variables
pub record IsFamily (count : ℕ) (family : Family) : Type 0 where
  pub each : length family.grids.items ≡ length family.members.items
  pub sizes : (class : ℕ) → class < length family.members.items → size_of (grid_of family class) ≡ 2 * length (members_of family class)
  pub few : (class : ℕ) → length (members_of family class) ≤ most_members
  pub inside : (class v : ℕ) → Contains (members_of family class) v → v < count

-- the classes have the members that they had
abbrev pub AreSameMembers : Family → Family → Type 0
AreSameMembers old new = new.members.items ≡ old.members.items

-- no class is full beyond measure, and all members are numbers of variables
pub record AreMembers (count : ℕ) (members : List (List ℕ)) : Type 0 where
  pub few : (class : ℕ) → length (slice_index_or members class []) ≤ most_members
  pub inside : (class v : ℕ) → Contains (slice_index_or members class []) v → v < count

-- a state and the one that is turned round
abbrev pub AreTurned : ℕ → ℕ → Type 0
AreTurned i j = (i / 2 ≡ j / 2) × (i ≡ j → ⊥)

-- a way that needs no edge: from a state to itself, to the one that is turned round, and on
pub data Turns (size : ℕ) : ℕ → ℕ → ℕ → Type 0 where
  stays : {i : ℕ} → i < size → Turns size i i 0
  turns : {i j : ℕ} → i < size → AreTurned i j → Turns size i j 1
  behind : {i j k m n : ℕ} → Turns size i j m → Turns size j k n → Turns size i k (m + n)

-- a grid of the states of so many variables, in which only ways are known that need no edge
pub record IsTurning (count : ℕ) (grid : Table) : Type 0 where
  pub size : size_of grid ≡ 2 * count
  pub holds : Holds (Turns (2 * count)) grid

-- between places of a class a count is told
abbrev pub IsToldAt : List Dtv → List Bool → List Edge → List ℕ → ℕ → ℕ → ℕ → Type 0
IsToldAt known flips lines members i j k = IsTold known flips lines (state_at members i) (state_at members j) k

-- what the grids say is told
abbrev pub IsToldFamily : List Dtv → List Bool → List Edge → Family → Type 0
IsToldFamily known flips lines family = (class : ℕ) → class < length family.members.items →
    Holds (IsToldAt known flips lines (members_of family class)) (grid_of family class)

-- the place is that of the state in a class
pub record IsHome (family : Family) (state : State) (home : Home) : Type 0 where
  pub class : home.class < length family.members.items
  pub place : home.index < size_of (grid_of family home.class)
  pub is : state_at (members_of family home.class) home.index ≡ state

-- each is a variable with a letter more than a member
abbrev pub AreKids : List ℕ → List Kid → Type 0
AreKids members kids = (kid : Kid) → Contains kids kid → kid.parent < length members

-- the counts of a row are told of ways from a state
abbrev pub IsToldRow : List Dtv → List Bool → List Edge → State → List ℕ → List ℕ → Type 0
IsToldRow known flips lines state members row = (j : ℕ) → j < length row → count_at row j < 255 →
    IsTold known flips lines state (state_at members j) (count_at row j)

-- the steps lead to places of a class, and are told of ways from a state
abbrev pub AreToldSteps : List Dtv → List Bool → List Edge → State → Family → ℕ → List Step → Type 0
AreToldSteps known flips lines state family class steps = (s : Step) → Contains steps s →
    IsTold known flips lines state (state_at (members_of family class) s.to) s.count

abbrev pub AreInClass : Family → ℕ → List Step → Type 0
AreInClass family class steps = (s : Step) → Contains steps s → s.to < size_of (grid_of family class)

-- a state has the letter more than another one, if there is one, else it is that
abbrev pub IsAtOrBehind : List Dtv → State → State → Option Label → Type 0
IsAtOrBehind known root parent None = parent ≡ root
IsAtOrBehind known root parent (Some l) = IsChildOf known parent root l

-- what is pushed from a count between two states to those that have letters more, if both have one, else the count itself
abbrev pub IsPassedOn : Bool → Option Label → Option Label → ℕ → Variance → Variance → ℕ → Type 0
IsPassedOn flip None None d a b k = k ≡ d
IsPassedOn flip (Some l) (Some m) d a b k = PushBy flip l m d a b k
IsPassedOn flip None (Some m) d a b k = ⊥
IsPassedOn flip (Some l) None d a b k = ⊥

-- a state has a letter more than the one at a place of a class, or than what has a letter of a pointer more than that, and one
-- stands in a class of a family
pub record IsEnd (known : List Dtv) (flips : List Bool) (members : List ℕ) (into : Family) (end : End) : Type 0 where
  pub inside : end.place < 2 * length members
  pub root : end.root ≡ state_at members end.place
  pub root_flip : end.root_flip ≡ flip_at flips end.root.variable
  pub parent : IsAtOrBehind known end.root end.parent end.pointed
  pub child : IsChildOf known end.child end.parent end.letter
  pub home : IsHome into end.stand end.home
  pub flip : end.flip ≡ flip_at flips end.parent.variable

abbrev pub AreEnds : List Dtv → List Bool → List ℕ → Family → List End → Type 0
AreEnds known flips members into ends = (end : End) → Contains ends end → IsEnd known flips members into end

-- the parent's place is one of a row, and the state's, if it stands in the class, one of what is known there
pub record IsInRows (row : List ℕ) (class : ℕ) (known : List ℕ) (end : End) : Type 0 where
  pub parent : end.place < length row
  pub home : end.home.class ≡ class → end.home.index < length known

abbrev pub AreInRows : List ℕ → ℕ → List ℕ → List End → Type 0
AreInRows row class known ends = (end : End) → Contains ends end → IsInRows row class known end

-- the variable has a letter more than a member of a class
pub record IsKid (family : Family) (number : ℕ) (kid : Kid) : Type 0 where
  pub class : number < length family.members.items
  pub parent : kid.parent < length (members_of family number)

-- the variables of a group have a letter more than members of its class
pub record IsGroup (family : Family) (group : Group) : Type 0 where
  pub class : group.class < length family.members.items
  pub are : AreKids (members_of family group.class) group.kids

-- so have those of all groups
abbrev pub AreGroups : Family → List Group → Type 0
AreGroups family groups = All (IsGroup family) groups

-- the edge is a step from a place to another one
pub record IsOfStep (members : List ℕ) (i : ℕ) (step : Step) (e : Edge) : Type 0 where
  pub from : e.from ≡ state_at members i
  pub to : e.to ≡ state_at members step.to
  pub count : e.count ≡ step.count

-- the edge is one of the steps from a place
pub record IsStepFrom (members : List ℕ) (grid : Table) (i : ℕ) (e : Edge) : Type 0 where
  pub step : Step
  pub listed : Contains (steps_of grid.steps i) step
  pub inside : step.to < size_of grid
  pub is : IsOfStep members i step e

-- the edge is one of the steps of a grid
pub record IsStepOf (members : List ℕ) (grid : Table) (e : Edge) : Type 0 where
  pub place : ℕ
  pub inside : place < size_of grid
  pub step : IsStepFrom members grid place e

-- edges of which something holds are put behind others
abbrev pub AreMore : (Edge → Type 0) → List Edge → List Edge → Type 0
AreMore P old new = (e : Edge) → Contains new e → Contains old e ⊎ P e

-- the least bit of a sign: one where it keeps the order
abbrev pub bit_of : Bool → ℕ
bit_of true = 0
bit_of false = 1
