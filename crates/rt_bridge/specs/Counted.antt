-- Counted judgements: from one state to another, with how many steps of its rest.
use Rattle.std.specs.Prelude.{◌≡◌, ℕ, ◌≤◌, ◌+◌, ◌%◌}
use Rattle.rt_lines.specs.declared.label.Label.{Label}
use Rattle.rt_lines.specs.declared.label.Label.TheVariants.{Load, Store}
use Rattle.rt_lines.specs.declared.label.Variance.{Variance}
use Rattle.rt_lines.specs.declared.label.Variance.TheVariants.{Co, Contra}
use Rattle.rt_lines.specs.Words.{label_variance, times}
use Rattle.rt_bridge.specs.Growing.{Var, dot, Given, V, Der, HasSub}

-- states, pushes, counted judgements
abbrev pub bit : Variance → ℕ
bit Co = 1
bit Contra = 0

abbrev pub differ : Variance → Variance → ℕ
differ Co Co = 0
differ Co Contra = 1
differ Contra Co = 1
differ Contra Contra = 0

abbrev pub IsEven : ℕ → Type 0
IsEven n = n % 2 ≡ 0

pub record State : Type 0 where
  pub var : Var
  pub sign : Variance

abbrev pub st : Var → Variance → State
st x a = record { var = x; sign = a }

abbrev pub IsPointer : Label → Type 0
IsPointer Load = Unit {0}
IsPointer Store = Unit {0}
IsPointer l = ⊥

pub data Push (L : Given) (x : Var) : Label → Label → ℕ → Variance → Variance → ℕ → Type 0 where
  half : {l m : Label} {d k : ℕ} {a b : Variance} → IsPointer l → IsPointer m → Der L (V (dot x Load)) →
      Der L (V (dot x Store)) →
      d + bit (times (label_variance l) a) ≤ (k + k) + bit (times (label_variance m) b) → IsEven (k + differ a b) →
      Push L x l m d a b k
  kept : {l : Label} {d : ℕ} {a b : Variance} → Push L x l l d a b d

pub data Bridge (L : Given) (M : Var → Type 0) : State → State → ℕ → Type 0 where
  here : {x : Var} (a : Variance) → M x → Der L (V x) → Bridge L M (st x a) (st x a) 0
  turn : {x : Var} (a : Variance) → M x → Der L (V x) → Bridge L M (st x a) (st x (times Contra a)) 1
  up : {x y : Var} → HasSub L x y → Bridge L M (st x Co) (st y Co) 0
  down : {x y : Var} → HasSub L x y → Bridge L M (st y Contra) (st x Contra) 0
  join : {x y z : State} {j k : ℕ} → Bridge L M x y j → Bridge L M y z k → Bridge L M x z (j + k)
  push : {x y : Var} {l m : Label} {a b : Variance} {d k : ℕ} → M (dot x l) → M (dot y m) → Der L (V (dot x l)) →
      Der L (V (dot y m)) →
      Bridge L M (st x (times (label_variance l) a)) (st y (times (label_variance m) b)) d → Push L x l m d a b k →
      Bridge L M (st (dot x l) a) (st (dot y m) b) k

-- it can be read and written through
abbrev pub Flip : Given → Var → Type 0
Flip L x = Der L (V (dot x Load)) × Der L (V (dot x Store))
