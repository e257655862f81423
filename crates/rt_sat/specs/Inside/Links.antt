-- What is told of ways to states and from them, from and to others that are noted at them.
use Rattle.std.specs.Prelude.{ℕ, ◌+◌, ◌*◌, ◌<◌, List, [], All, Bool, Contains, length, slice_index_or}
use Rattle.rt_lines.specs.declared.variable.Dtv.{Dtv}
use Rattle.rt_sat.specs.declared.gathering.End.{End}
use Rattle.rt_sat.specs.declared.gathering.Ready.{Ready}
use Rattle.rt_sat.specs.declared.links.Links.{Links}
use Rattle.rt_sat.specs.declared.state.Edge.{Edge}
use Rattle.rt_sat.specs.declared.state.State.{State}
use Rattle.rt_sat.specs.Counts.{digit_of}
use Rattle.rt_sat.specs.declared.family.Family.{Family}
use Rattle.rt_sat.specs.Hints.{members_of, AreEnds, IsEnd, IsTold}

-- a number for a state: two for each variable
abbrev pub number_of : State → ℕ
number_of s = 2 * s.variable + digit_of s.contra

-- the states that are noted at one
abbrev pub noted_at : List (List State) → State → List State
noted_at near at = slice_index_or near (number_of at) []

-- ways of count nought are told from those that are noted at a state to it
abbrev pub AreBefore : List Dtv → List Bool → List Edge → List (List State) → Type 0
AreBefore known flips lines near = (at s : State) → Contains (noted_at near at) s → IsTold known flips lines s at 0

-- ways of count nought are told to those that are noted at a state from it
abbrev pub AreBehind : List Dtv → List Bool → List Edge → List (List State) → Type 0
AreBehind known flips lines near = (at s : State) → Contains (noted_at near at) s → IsTold known flips lines at s 0

-- of links both are told
pub record AreLinked (known : List Dtv) (flips : List Bool) (lines : List Edge) (links : Links) : Type 0 where
  pub before : AreBefore known flips lines links.before.items
  pub behind : AreBehind known flips lines links.behind.items

-- ways of count nought are told from where ends stand to their children
abbrev pub AreSources : List Dtv → List Bool → List Edge → List End → Type 0
AreSources known flips lines ends = (end : End) → Contains ends end → IsTold known flips lines end.stand end.child 0

-- ways of count nought are told from ends' children to where they stand
abbrev pub AreTargets : List Dtv → List Bool → List Edge → List End → Type 0
AreTargets known flips lines ends = (end : End) → Contains ends end → IsTold known flips lines end.child end.stand 0

-- ends, and others
abbrev pub AreEndsOf : List Dtv → List Bool → List ℕ → Family → List End → List End → Type 0
AreEndsOf known flips members into sources targets = AreEnds known flips members into sources × AreEnds known flips members into targets

-- one end, and others
abbrev pub AreEndsFrom : List Dtv → List Bool → List ℕ → Family → End → List End → Type 0
AreEndsFrom known flips members into source targets = IsEnd known flips members into source × AreEnds known flips members into targets

-- a way of count nought is told from where the one stands to its child, and such ways from the others' children to where they stand
abbrev pub AreTied : List Dtv → List Bool → List Edge → End → List End → Type 0
AreTied known flips lines source targets = IsTold known flips lines source.stand source.child 0 × AreTargets known flips lines targets

-- the ends of a group of a class, which have what links tell
pub record IsReady (known : List Dtv) (flips : List Bool) (family : Family) (links : Links) (ready : Ready) : Type 0 where
  pub class : ready.class < length family.members.items
  pub leading : AreEndsOf known flips (members_of family ready.class) family ready.sources.items ready.leading.items
  pub others : AreEndsOf known flips (members_of family ready.class) family ready.sources.items ready.others.items
  pub before : (lines : List Edge) → AreLinked known flips lines links → AreSources known flips lines ready.sources.items
  pub ahead : (lines : List Edge) → AreLinked known flips lines links → AreTargets known flips lines ready.leading.items
  pub aside : (lines : List Edge) → AreLinked known flips lines links → AreTargets known flips lines ready.others.items

-- so have those of all groups
abbrev pub AreReady : List Dtv → List Bool → Family → Links → List Ready → Type 0
AreReady known flips family links all = All (IsReady known flips family links) all
