-- Laws of ways, of the three sets, and of marks.
use Rattle.std.specs.Prelude.{◌≡◌, ◌↔◌, ◌<◌, ℕ, List, [], ◌++◌, map, filter, All, Contains, Bool, true, false, IsTrue}
use Rattle.rt_lines.specs.declared.label.Label.{Label}
use Rattle.rt_lines.specs.declared.label.Label.TheVariants.{Load, Store}
use Rattle.rt_lines.specs.declared.label.Variance.TheVariants.{Co}
use Rattle.rt_lines.specs.declared.variable.Base.{Base}
use Rattle.rt_lines.specs.declared.variable.Dtv.{Dtv}
use Rattle.rt_lines.specs.declared.line.Line.{Line}
use Rattle.rt_lines.specs.declared.line.Line.TheVariants.{Var, Same, Sub, Low, Up}
use Rattle.rt_lines.specs.Lines.{HasConstantsBelow}
use Rattle.rt_lines.specs.Orders.{Below, IsAtOrBelow}
use Rattle.rt_lines.specs.OrderFacts.{IsOrder}
use Rattle.rt_rules.specs.Rules.{longer, extended, Derivable}
use Rattle.rt_named.specs.Naming.{named}
use Rattle.rt_loose.specs.Loose.{IsLoose, Loosely}
use Rattle.rt_loose.specs.Kinds.{Kind, flexible, signed, opposite, IsPointer, Flips}
use Rattle.rt_loose.specs.Ways.{Way, Every}
use Rattle.rt_loose.specs.Sets.{Sets, AreSets, IsNext, AreLed}

-- what added pointer lines derive is what the rules with one more derive
abbrev pub LoosenessLaw : Type 0
LoosenessLaw = (order : Below) (lines : List Line) (j : Line) → IsLoose order lines j ↔ Loosely order lines j

-- one variable lies loosely below another exactly if a way of covariant kind leads from it to that
abbrev pub BelowLaw : Type 0
BelowLaw = (order : Below) (lines : List Line) (x y : Dtv) →
    Loosely order lines (Sub x y) ↔ Way order lines Every x y (signed Co)

-- a way the other way round, of the opposite kind; and one of letters that can be exchanged
pub record IsTurned (order : Below) (lines : List Line) (known : List Dtv) (x y : Dtv) (k : Kind) : Type 0 where
  pub back : Way order lines (Contains known) y x (opposite k)
  pub exchanged : Way order lines (Contains known) x y flexible

-- each way has both
abbrev pub TurnedLaw : Type 0
TurnedLaw = (order : Below) (lines : List Line) (known : List Dtv) (x y : Dtv) (k : Kind) → Way order lines (Contains known) x y k →
    IsTurned order lines known x y k

-- between named variables ways go over named variables alone
abbrev pub NamedLaw : Type 0
NamedLaw = (order : Below) (lines : List Line) (x y : Dtv) (k : Kind) → Contains (named lines []) x → Contains (named lines []) y →
    Way order lines Every x y k ↔ Way order lines (Contains (named lines [])) x y k

-- a base alone, if it is named
abbrev pub IsStart : List Dtv → Base → Kind → Dtv → Type 0
IsStart known b k n = Contains known n × (◌≡◌ {A = Dtv} (record { base = b; word = [] }) n)

-- what ways over named variables lead to a base from, and from it to, are its sets, which are empty if it isn't named
abbrev pub StartLaw : Type 0
StartLaw = (order : Below) (lines : List Line) (b : Base) (sets : Sets) →
    AreLed order lines (named lines []) (IsStart (named lines []) b) sets →
    AreSets order lines (named lines []) (record { base = b; word = [] }) sets

-- load and store can be exchanged there, if the test says so
abbrev pub IsExchange : Below → List Line → Dtv → Label → Bool → Type 0
IsExchange order lines x l exchanged = IsTrue exchanged ↔ (IsPointer l × Flips order lines x)

-- the sets of a variable with a letter more are what ways over named variables lead to from the sets of the variable
abbrev pub StepLaw : Type 0
StepLaw = (order : Below) (lines : List Line) (x : Dtv) (l : Label) (exchanged : Bool) (sets next : Sets) →
    Derivable order lines (Var (longer x l)) → IsExchange order lines x l exchanged → AreSets order lines (named lines []) x sets →
    AreLed order lines (named lines []) (IsNext (named lines []) exchanged l sets) next →
    AreSets order lines (named lines []) (longer x l) next

-- a lower bound of a line, at or above the constant, whose variable is in the list
pub record HasLowIn (order : Below) (lines : List Line) (k : ℕ) (list : List Dtv) : Type 0 where
  pub bound : ℕ
  pub variable : Dtv
  pub stands : Contains lines (Low bound variable)
  pub at : IsAtOrBelow order k bound
  pub among : Contains list variable

-- an upper bound of a line, at or below the constant, whose variable is in the list
pub record HasUpIn (order : Below) (lines : List Line) (k : ℕ) (list : List Dtv) : Type 0 where
  pub bound : ℕ
  pub variable : Dtv
  pub stands : Contains lines (Up variable bound)
  pub at : IsAtOrBelow order bound k
  pub among : Contains list variable

-- constants of the lines are below the order's count: the lower bounds of a variable are those of the lines of its set below
abbrev pub LowMarksLaw : Type 0
LowMarksLaw = (order : Below) (lines : List Line) (x : Dtv) (sets : Sets) (k : ℕ) → IsOrder order →
    All (HasConstantsBelow order.count) lines → AreSets order lines (named lines []) x sets → k < order.count →
    IsLoose order lines (Low k x) ↔ HasLowIn order lines k sets.below

-- and its upper bounds those of its set above
abbrev pub UpMarksLaw : Type 0
UpMarksLaw = (order : Below) (lines : List Line) (x : Dtv) (sets : Sets) (k : ℕ) → IsOrder order →
    All (HasConstantsBelow order.count) lines → AreSets order lines (named lines []) x sets → k < order.count →
    IsLoose order lines (Up x k) ↔ HasUpIn order lines k sets.above

-- the load and the store of a variable that has both have the same behind them, and the same marks there
pub record IsOneEnd (order : Below) (lines : List Line) (load store : Dtv) : Type 0 where
  pub words : Derivable order lines (Var load) ↔ Derivable order lines (Var store)
  pub low : (k : ℕ) → IsLoose order lines (Low k load) ↔ IsLoose order lines (Low k store)
  pub up : (k : ℕ) → IsLoose order lines (Up load k) ↔ IsLoose order lines (Up store k)

-- with each word behind them
abbrev pub PointerLaw : Type 0
PointerLaw = (order : Below) (lines : List Line) (x : Dtv) (z : List Label) → Flips order lines x →
    IsOneEnd order lines (extended (longer x Load) z) (extended (longer x Store) z)

-- a subtype line
abbrev pub is_sub : Line → Bool
is_sub (Var x) = false
is_sub (Same x y) = false
is_sub (Sub x y) = true
is_sub (Low k x) = false
is_sub (Up x k) = false

-- the subtype lines, and that the named variables exist
abbrev pub flat_lines : List Line → List Line
flat_lines lines = filter is_sub lines ++ map (λ (x : Dtv). Var x) (named lines [])

-- ways of exchangeable letters lead between named variables exactly if by these lines they have one shape
abbrev pub FlexibleLaw : Type 0
FlexibleLaw = (order : Below) (lines : List Line) (x y : Dtv) → Contains (named lines []) x → Contains (named lines []) y →
    Way order lines (Contains (named lines [])) x y flexible ↔ Derivable order (flat_lines lines) (Same x y)
