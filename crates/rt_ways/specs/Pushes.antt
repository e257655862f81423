-- What is pushed from a way between two variables to longer ones.
use Rattle.std.specs.Prelude.{◌≡◌, ℕ, ◌<◌, ◌≤◌, ◌⊎◌, ◌↔◌, List, Contains, Some, Option, length, slice_index_or}
use Rattle.std.specs.Map.{lookup}
use Rattle.rt_lines.specs.declared.label.Label.{Label}
use Rattle.rt_lines.specs.declared.label.Variance.TheVariants.{Co, Contra}
use Rattle.rt_lines.specs.Words.{label_variance}
use Rattle.rt_lines.specs.declared.variable.Dtv.{Dtv}
use Rattle.rt_rules.specs.Rules.{longer}
use Rattle.rt_named.specs.Origins.{no_variable}
use Rattle.rt_shape.specs.Graphs.{letter_eq}
use Rattle.rt_ways.specs.Arcs.{IsInRow}

-- the variable of a number
abbrev pub variable_at : List Dtv → ℕ → Dtv
variable_at named n = slice_index_or named n no_variable

-- the variable of a number is that of another with the letter more
pub record IsMade (named : List Dtv) (n p : ℕ) (l : Label) : Type 0 where
  pub within : n < length named
  pub parent : p < length named
  pub is : variable_at named n ≡ longer (variable_at named p) l

-- no two numbers have one variable
abbrev pub AreDistinct : List Dtv → Type 0
AreDistinct named = (m n : ℕ) → m < length named → n < length named → variable_at named m ≡ variable_at named n → m ≡ n

-- the number with a letter more
abbrev pub step_of : List ((ℕ × Label) × ℕ) → ℕ → Label → Option ℕ
step_of steps p l = lookup (letter_eq (p, l)) steps

-- the steps lead from each number to those that are made of it
abbrev pub AreSteps : List Dtv → List ((ℕ × Label) × ℕ) → Type 0
AreSteps named steps = (n p : ℕ) (l : Label) → (step_of steps p l ≡ Some n) ↔ IsMade named n p l

-- one number is pushed to another: both are made by one letter, and by its variance what they are made of are related
pub data IsPushed (named : List Dtv) (Edge : ℕ → ℕ → Type 0) (v w : ℕ) : Type 0 where
  co : {p q : ℕ} {l : Label} → label_variance l ≡ Co → IsMade named v p l → IsMade named w q l → Edge p q →
      IsPushed named Edge v w
  contra : {p q : ℕ} {l : Label} → label_variance l ≡ Contra → IsMade named v p l → IsMade named w q l → Edge q p →
      IsPushed named Edge v w

-- what is pushed is related already
abbrev pub IsClosed : List Dtv → (ℕ → ℕ → Type 0) → Type 0
IsClosed named Edge = (v w : ℕ) → IsPushed named Edge v w → Edge v w

-- the pair behind a letter of two numbers, the other way round for a contravariant one
abbrev pub IsPair : Label → ℕ → ℕ → ℕ → ℕ → Type 0
IsPair l n m v w = ((label_variance l ≡ Co) × (n ≡ v) × (m ≡ w)) ⊎ ((label_variance l ≡ Contra) × (m ≡ v) × (n ≡ w))

-- what is pushed from a number, or to it if by a contravariant letter
abbrev pub IsClosedAt : List Dtv → (ℕ → ℕ → Type 0) → ℕ → Type 0
IsClosedAt named Edge n = (p q m v w : ℕ) (l : Label) → IsMade named n p l → IsMade named m q l → Edge p q →
    IsPair l n m v w → Edge v w

-- what is behind a letter of a number, if there is that, is related to another one
abbrev pub IsNoted : List ((ℕ × Label) × ℕ) → List (List ℕ) → Label → ℕ → ℕ → Type 0
IsNoted steps rows l n q = (m v w : ℕ) → step_of steps q l ≡ Some m → IsPair l n m v w → IsInRow rows v w

-- the least relation that has the first arcs and ways of them, and what is pushed from such ways
pub data Closure (named : List Dtv) (Edge : ℕ → ℕ → Type 0) : ℕ → ℕ → Type 0 where
  arc : {v w : ℕ} → Edge v w → Closure named Edge v w
  stay : {v : ℕ} → Closure named Edge v v
  chain : {u v w : ℕ} → Closure named Edge u v → Closure named Edge v w → Closure named Edge u w
  co : {v w p q : ℕ} {l : Label} → label_variance l ≡ Co → IsMade named v p l → IsMade named w q l → Closure named Edge p q →
      Closure named Edge v w
  contra : {v w p q : ℕ} {l : Label} → label_variance l ≡ Contra → IsMade named v p l → IsMade named w q l →
      Closure named Edge q p →
      Closure named Edge v w

-- the rows are those of the closure
pub record AreClosure (named : List Dtv) (Edge : ℕ → ℕ → Type 0) (rows : List (List ℕ)) : Type 0 where
  pub each : length rows ≡ length named
  pub row : (v w : ℕ) → v < length named → IsInRow rows v w ↔ Closure named Edge v w

-- pairs with more behind them, of each of which something holds
pub record IsGrown (P : ℕ → ℕ → Type 0) (old new : List (ℕ × ℕ)) : Type 0 where
  pub kept : (v w : ℕ) → Contains old (v, w) → Contains new (v, w)
  pub only : (v w : ℕ) → Contains new (v, w) → Contains old (v, w) ⊎ P v w
  pub long : length old ≤ length new
