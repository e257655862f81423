-- Laws of counted judgements, of tables of edges, and of bounds.
use Rattle.std.specs.Prelude.{ℕ, ◌↔◌, ◌<◌, List, All, Bool, IsTrue}
use Rattle.rt_lines.specs.declared.label.Label.{Label}
use Rattle.rt_lines.specs.declared.label.Variance.TheVariants.{Co}
use Rattle.rt_lines.specs.declared.variable.Base.{Base}
use Rattle.rt_lines.specs.declared.variable.Dtv.{Dtv}
use Rattle.rt_lines.specs.declared.line.Line.{Line}
use Rattle.rt_lines.specs.declared.line.Line.TheVariants.{Low, Up}
use Rattle.rt_lines.specs.Lines.{HasConstantsBelow}
use Rattle.rt_lines.specs.Orders.{Below}
use Rattle.rt_lines.specs.OrderFacts.{IsOrder}
use Rattle.rt_rules.specs.Rules.{Derivable}
use Rattle.rt_bridge.specs.Growing.{Var, at, dot, Given, Fact, V, S, Der, HasSub}
use Rattle.rt_bridge.specs.Counted.{State, st, Bridge, Flip}
use Rattle.rt_bridge.specs.Ways.{Way, WayIn, IsClosed, HasLines}
use Rattle.rt_bridge.specs.Bounds.{HasLow, HasUp}

-- the variables of a test
abbrev pub Named : (Var → Bool) → Var → Type 0
Named test x = IsTrue (test x)

-- the edges of a test
abbrev pub Edge : (State → State → ℕ → Bool) → State → State → ℕ → Type 0
Edge test x y k = IsTrue (test x y k)

-- with each named variable that with a letter less; the bases of all variables, and the sides of all subtype lines
pub record AreNamed (L : Given) (named : Var → Bool) : Type 0 where
  pub parents : (x : Var) (l : Label) → Named named (dot x l) → Named named x
  pub bases : (b : Base) → Der L (V (at b)) → Named named (at b)
  pub sides : (x y : Var) → HasSub L x y → Named named x × Named named y

-- the test of whether a variable can be read and written through
abbrev pub AreFlips : Given → (Var → Bool) → Type 0
AreFlips L flips = (x : Var) → IsTrue (flips x) ↔ Flip L x

-- between named variables, of which the first exists, one lies below the other exactly if a judgement counts nought
abbrev pub ExactLaw : Type 0
ExactLaw =
    (L : Given) (named flips : Var → Bool) → AreNamed L named → AreFlips L flips → (x y : Var) → Named named x →
    Named named y →
    Der L (V x) →
    Der L (S x y) ↔ Bridge L (Named named) (st x Co) (st y Co) 0

-- each edge is a counted judgement, the subtype lines are edges, and whatever is pushed from a way has a way
pub record IsTable (L : Given) (named : Var → Bool) (edge : State → State → ℕ → Bool) : Type 0 where
  pub sound : (x y : State) (k : ℕ) → Edge edge x y k → Bridge L (Named named) x y k
  pub lines : HasLines (Edge edge) L
  pub closed : IsClosed (Edge edge) L (Named named)

-- a closed table has ways for the counted judgements, and no others
abbrev pub WaysLaw : Type 0
WaysLaw =
    (L : Given) (named : Var → Bool) (edge : State → State → ℕ → Bool) → AreNamed L named → IsTable L named edge →
    (x y : State) (k : ℕ) →
    (Bridge L (Named named) x y k → WayIn (Edge edge) x y k) ×
    (Named named x.var → Der L (V x.var) → Way (Edge edge) x y k → Bridge L (Named named) x y k)

-- in a closed table a way of count nought leads from one variable to another exactly if the first lies below the second
abbrev pub TableLaw : Type 0
TableLaw =
    (L : Given) (named flips : Var → Bool) (edge : State → State → ℕ → Bool) → AreNamed L named → AreFlips L flips →
    IsTable L named edge →
    (x y : Var) → Named named x → Named named y → Der L (V x) → Der L (S x y) ↔ Way (Edge edge) (st x Co) (st y Co) 0

-- where edges have the lines of a shorter list, and are closed under the pushes of a longer one, of which each fact of the shorter one
-- holds, there is a way wherever the shorter list says that a variable lies below another
abbrev pub FewerLaw : Type 0
FewerLaw =
    (L fewer : Given) (named : Var → Bool) (edge : State → State → ℕ → Bool) → AreNamed fewer named →
    ((f : Fact) → Der fewer f → Der L f) →
    IsClosed (Edge edge) L (Named named) → HasLines (Edge edge) fewer →
    (x y : Var) → Named named x → Named named y → Der fewer (S x y) → Way (Edge edge) (st x Co) (st y Co) 0

-- constants of the lines are below the order's count: a lower bound is derivable exactly if one of a line reaches it
abbrev pub LowLaw : Type 0
LowLaw =
    (order : Below) (lines : List Line) (k : ℕ) (x : Dtv) → IsOrder order → All (HasConstantsBelow order.count) lines →
    Derivable order lines (Low k x) ↔ HasLow order lines k x

-- and an upper bound by a constant below the count
abbrev pub UpLaw : Type 0
UpLaw =
    (order : Below) (lines : List Line) (x : Dtv) (k : ℕ) → IsOrder order → All (HasConstantsBelow order.count) lines →
    k < order.count →
    Derivable order lines (Up x k) ↔ HasUp order lines x k
