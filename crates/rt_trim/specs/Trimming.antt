-- What trims lines: which lines use which variables, which existentials are not idle, and what is left.
use Rattle.std.specs.Prelude.{◌≡◌, ◌≢◌, ◌↔◌, ℕ, ◌<◌, ◌⊎◌, Bool, true, Some}
use Rattle.std.specs.Prelude.{List, Contains, length, map, take, slice_get}
use Rattle.std.specs.Map.{lookup}
use Rattle.rt_lines.specs.declared.variable.Base.TheVariants.{Exist}
use Rattle.rt_lines.specs.declared.variable.Dtv.{Dtv}
use Rattle.rt_lines.specs.declared.line.Line.{Line}
use Rattle.rt_lines.specs.declared.line.Line.TheVariants.{Var, Same, Sub, Low, Up}
use Rattle.rt_lines.specs.Equality.{variable_eq}
use Rattle.rt_trim.specs.Idle.{as_load, AreIdle, trimmed}

-- the variable is a side of the `<=` line or bound
abbrev pub IsFlowSide : Line → Dtv → Type 0
IsFlowSide (Var x) z = ⊥
IsFlowSide (Same x y) z = ⊥
IsFlowSide (Sub x y) z = (x ≡ z) ⊎ (y ≡ z)
IsFlowSide (Low k x) z = x ≡ z
IsFlowSide (Up x k) z = x ≡ z

-- so many letters of the variable, with loads in the place of stores
abbrev pub front_of : Dtv → ℕ → Dtv
front_of x n = record { base = x.base; word = map as_load (take n x.word) }

-- all its letters
abbrev pub loaded : Dtv → Dtv
loaded x = record { base = x.base; word = map as_load x.word }

-- with loads in the place of stores it is a side of the line
abbrev pub HasLoaded : Line → Dtv → Type 0
HasLoaded l z = (x : Dtv) × IsFlowSide l x × (loaded x ≡ z)

-- a line that uses it is noted
abbrev pub HasUser : List (Dtv × ℕ) → Dtv → Type 0
HasUser users z = (i : ℕ) × (lookup (variable_eq z) users ≡ Some i)

-- for each side of the lines before an index, with loads in the place of stores, the index of a line with that side
pub record AreUsers (lines : List Line) (count : ℕ) (users : List (Dtv × ℕ)) : Type 0 where
  pub only : (z : Dtv) (i : ℕ) → lookup (variable_eq z) users ≡ Some i →
      (l : Line) × (slice_get lines i ≡ Some l) × HasLoaded l z
  pub all : (i : ℕ) (l : Line) (z : Dtv) → i < count → slice_get lines i ≡ Some l → HasLoaded l z → HasUser users z

-- the variables of a property were entered with the index, and nothing else
pub record AreEntered (P : Dtv → Type 0) (i : ℕ) (old new : List (Dtv × ℕ)) : Type 0 where
  pub entered : (z : Dtv) → P z → HasUser new z
  pub kept : (z : Dtv) → HasUser old z → HasUser new z
  pub source : (z : Dtv) (j : ℕ) → lookup (variable_eq z) new ≡ Some j →
      (lookup (variable_eq z) old ≡ Some j) ⊎ (P z × (j ≡ i))

-- the line that is noted of the variable is another
abbrev pub HasOtherUser : List Line → List (Dtv × ℕ) → Line → Dtv → Type 0
HasOtherUser lines users l z =
    (i : ℕ) × (k : Line) × (lookup (variable_eq z) users ≡ Some i) × (slice_get lines i ≡ Some k) × (k ≢ l)

-- a line is noted of a variable that begins this side of the line, or another line is noted of the side
abbrev pub HasRival : List Line → List (Dtv × ℕ) → Line → Dtv → Type 0
HasRival lines users l x =
    ((n : ℕ) × (n < length x.word) × HasUser users (front_of x n)) ⊎ HasOtherUser lines users l (loaded x)

-- the side is one of the existential, and has such a line
abbrev pub IsSpoiledAt : List Line → List (Dtv × ℕ) → Line → Dtv → ℕ → Type 0
IsSpoiledAt lines users l x n = (x.base ≡ Exist n) × HasRival lines users l x

-- the existential stands on both sides of the line, or on one that has such a line
abbrev pub IsSpoiledBy : List Line → List (Dtv × ℕ) → ℕ → Line → Type 0
IsSpoiledBy lines users n (Var x) = ⊥
IsSpoiledBy lines users n (Same x y) = ⊥
IsSpoiledBy lines users n (Sub x y) =
    ((x.base ≡ Exist n) × (y.base ≡ Exist n)) ⊎
    (IsSpoiledAt lines users (Sub x y) x n ⊎ IsSpoiledAt lines users (Sub x y) y n)
IsSpoiledBy lines users n (Low k x) = IsSpoiledAt lines users (Low k x) x n
IsSpoiledBy lines users n (Up x k) = IsSpoiledAt lines users (Up x k) x n

-- the numbers of a property were added, and nothing else
pub record AreNoted (P : ℕ → Type 0) (old new : ℕ → Bool) : Type 0 where
  pub added : (n : ℕ) → P n → new n ≡ true
  pub kept : (n : ℕ) → old n ≡ true → new n ≡ true
  pub source : (n : ℕ) → new n ≡ true → (old n ≡ true) ⊎ P n

-- the set holds the numbers for which one of the lines is such
abbrev pub AreOfLines : (ℕ → Line → Type 0) → List Line → (ℕ → Bool) → Type 0
AreOfLines P lines has = (n : ℕ) → (has n ≡ true) ↔ ((l : Line) × Contains lines l × P n l)

-- no `<=` line or bound has an idle existential
abbrev pub HasNoneIdle : List Line → Type 0
HasNoneIdle lines = (idle : ℕ → Bool) × AreIdle lines idle × (trimmed idle lines ≡ lines)

-- some have, and the list is what trimming leaves
abbrev pub IsTrimmed : List Line → List Line → Type 0
IsTrimmed lines left =
    (idle : ℕ → Bool) × AreIdle lines idle × (trimmed idle lines ≢ lines) × (left ≡ trimmed idle lines)
