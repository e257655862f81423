-- Laws of the lower and the upper relations.
use Rattle.std.specs.Prelude.{Bool, IsTrue, ◌↔◌}
use Rattle.rt_lines.specs.declared.label.Label.{Label}
use Rattle.rt_bridge.specs.Growing.{Var, dot, Given, Fact, S, Der, HasSub}
use Rattle.rt_bridge.specs.Laws.{Named, AreNamed}
use Rattle.rt_enclosing.specs.Lower.{Relation, below, meets, Means, Lower}
use Rattle.rt_enclosing.specs.Implicit.{Shown, AreImplicit, ArePushedBehind}
use Rattle.rt_enclosing.specs.Turning.{IsTurning}
use Rattle.rt_enclosing.specs.Upper.{NeedHub, IsUpper, IsByHubs, Steps}

-- the relation of a test
abbrev pub Holds : (Var → Var → Bool) → Var → Var → Type 0
Holds test x y = IsTrue (test x y)

-- the lower relations say what is derivable: that the first variable of a pair lies below the second, or that there is a variable below
-- both, or above both
abbrev pub LowerLaw : Type 0
LowerLaw = (L : Given) (named : Var → Bool) (r : Relation) (x y : Var) → Lower L (Named named) r x y → Means L r x y

-- the subtype lines are pairs of the relation
abbrev pub HasLines : Given → (Var → Var → Type 0) → Type 0
HasLines L lies = (x y : Var) → HasSub L x y → lies x y

-- an upper relation that has the subtype lines has each derivable pair of named variables
abbrev pub UpperLaw : Type 0
UpperLaw =
    (L : Given) (named : Var → Bool) (lies may : Var → Var → Bool) → AreNamed L named →
    IsUpper L (Named named) (Holds lies) (Holds may) (Holds lies) →
    HasLines L (Holds lies) → (x y : Var) → Named named x → Named named y → Der L (S x y) → Holds lies x y

-- where an upper relation of a list has the lines of a shorter one, of which each fact holds of the list, steps of the shorter list's lines
-- and of what is pushed lead from one named variable to another wherever the shorter list says that it lies below the other
abbrev pub FewerLaw : Type 0
FewerLaw =
    (L fewer : Given) (named : Var → Bool) (lies may pushed : Var → Var → Bool) → AreNamed fewer named →
    ((f : Fact) → Der fewer f → Der L f) →
    IsUpper L (Named named) (Holds lies) (Holds may) (Holds pushed) → HasLines fewer (Holds lies) →
    (x y : Var) → Named named x → Named named y → Der fewer (S x y) → Steps fewer (Holds pushed) x y

-- the law of fewer lines, of an upper relation by hubs
abbrev pub HubsLaw : Type 0
HubsLaw =
    (L fewer : Given) (named : Var → Bool) (lies pushed : Var → Var → Bool) → AreNamed fewer named →
    ((f : Fact) → Der fewer f → Der L f) →
    IsByHubs L (Named named) (Holds lies) (Holds pushed) → HasLines fewer (Holds lies) →
    (x y : Var) → Named named x → Named named y → Der fewer (S x y) → Steps fewer (Holds pushed) x y

-- where a hub is needed the two variables meet already
abbrev pub NeedNoHub : Given → (Var → Type 0) → Type 0
NeedNoHub L M = (x y : Var) (l m : Label) → NeedHub L M x y l m → Lower L M meets (dot x l) (dot y m)

-- where no hub is needed for what doesn't meet, the lower relation is derivability between named variables
abbrev pub ExactLaw : Type 0
ExactLaw =
    (L : Given) (named : Var → Bool) → AreNamed L named → NeedNoHub L (Named named) → (x y : Var) → Named named x →
    Named named y →
    Der L (S x y) ↔ Lower L (Named named) below x y

-- the law of fewer lines, of an upper relation that leaves out load and store of some variables, if it has what is pushed behind these
abbrev pub ImplicitLaw : Type 0
ImplicitLaw =
    (L fewer : Given) (named implicit : Var → Bool) (lies may pushed : Var → Var → Bool) → AreNamed fewer named →
    ((f : Fact) → Der fewer f → Der L f) → AreImplicit L fewer (Named implicit) →
    IsUpper L (Shown (Named named) (Named implicit)) (Holds lies) (Holds may) (Holds pushed) →
    ArePushedBehind L (Shown (Named named) (Named implicit)) (Named implicit) (Holds lies) (Holds may) (Holds pushed) →
    HasLines fewer (Holds lies) → (x y : Var) → Shown (Named named) (Named implicit) x → Shown (Named named) (Named implicit) y →
    Der fewer (S x y) → Steps fewer (Holds pushed) x y

-- the law of fewer lines, of an upper relation that tells common lower variables and common upper ones apart
abbrev pub TurningLaw : Type 0
TurningLaw =
    (L fewer : Given) (named matters : Var → Bool) (lies may_meet may_join pushed : Var → Var → Bool) → AreNamed fewer named →
    ((f : Fact) → Der fewer f → Der L f) →
    IsTurning L (Named named) (Named matters) (Holds lies) (Holds may_meet) (Holds may_join) (Holds pushed) →
    HasLines fewer (Holds lies) →
    (x y : Var) → Named named x → Named named y → Der fewer (S x y) → Steps fewer (Holds pushed) x y
