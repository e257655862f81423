-- Tables of edges with counts, and the ways along them.
use Rattle.std.specs.Prelude.{ℕ, ◌≤◌, ◌+◌}
use Rattle.rt_lines.specs.declared.label.Label.{Label}
use Rattle.rt_lines.specs.declared.label.Variance.{Variance}
use Rattle.rt_lines.specs.declared.label.Variance.TheVariants.{Co, Contra}
use Rattle.rt_lines.specs.Words.{label_variance, times}
use Rattle.rt_bridge.specs.Growing.{Var, dot, Given, V, Der, HasSub}
use Rattle.rt_bridge.specs.Counted.{State, st, Push}

-- a way along edges, and turns at a variable
pub data Way (Edge : State → State → ℕ → Type 0) : State → State → ℕ → Type 0 where
  stays : {x : State} → Way Edge x x 0
  turns : {x : Var} {a : Variance} {y : State} {k : ℕ} → Way Edge (st x (times Contra a)) y k → Way Edge (st x a) y (1 + k)
  steps : {x y z : State} {j k : ℕ} → Edge x y j → Way Edge y z k → Way Edge x z (j + k)

module _ (Edge : State → State → ℕ → Type 0) where
  -- a way of at most a count
  pub record WayIn (x y : State) (k : ℕ) : Type 0 where
    pub count : ℕ
    pub few : count ≤ k
    pub way : Way Edge x y count

  -- whatever is pushed from a way has a way
  abbrev pub IsClosed : Given → (Var → Type 0) → Type 0
  IsClosed L M =
      (x y : Var) (l m : Label) (a b : Variance) (d k : ℕ) → M (dot x l) → M (dot y m) → Der L (V (dot x l)) →
      Der L (V (dot y m)) →
      Way Edge (st x (times (label_variance l) a)) (st y (times (label_variance m) b)) d → Push L x l m d a b k →
      WayIn (st (dot x l) a) (st (dot y m) b) k

  pub record HasLines (L : Given) : Type 0 where
    pub forth : {x y : Var} → HasSub L x y → Edge (st x Co) (st y Co) 0
    pub back : {x y : Var} → HasSub L x y → Edge (st y Contra) (st x Contra) 0
