-- Idle existentials: of no two lines in which one stands does the word of the one begin that of the other, but for loads and stores. So
-- nothing that comes to it goes on from it.
use Rattle.std.specs.Prelude.{◌≡◌, ◌↔◌, ℕ, ◌⊎◌, List, [], ◌∷◌, map, Contains, Bool, true, false, cond, ◌||◌}
use Rattle.rt_lines.specs.declared.label.Label.{Label}
use Rattle.rt_lines.specs.declared.label.Label.TheVariants.{In, Out, Load, Store, Field}
use Rattle.rt_lines.specs.declared.variable.Base.{Base}
use Rattle.rt_lines.specs.declared.variable.Base.TheVariants.{Proc, Global, Exist, Outer}
use Rattle.rt_lines.specs.declared.variable.Dtv.{Dtv}
use Rattle.rt_lines.specs.declared.line.Line.{Line}
use Rattle.rt_lines.specs.declared.line.Line.TheVariants.{Var, Same, Sub, Low, Up}

-- the letter, with a load in the place of a store
abbrev pub as_load : Label → Label
as_load (In l) = In l
as_load (Out n) = Out n
as_load Load = Load
as_load Store = Load
as_load (Field w k) = Field w k

-- the first word begins the second, but for loads and stores
pub data Begins : List Label → List Label → Type 0 where
  nothing : (w : List Label) → Begins [] w
  letter : (k l : Label) (u w : List Label) → as_load k ≡ as_load l → Begins u w → Begins (k ∷ u) (l ∷ w)

-- the existential with the word is a side of the `<=` line or bound
abbrev pub HasFlow : ℕ → List Label → Line → Type 0
HasFlow n u (Var x) = ⊥
HasFlow n u (Same x y) = ⊥
HasFlow n u (Sub x y) = (x ≡ record { base = Exist n; word = u }) ⊎ (y ≡ record { base = Exist n; word = u })
HasFlow n u (Low k x) = x ≡ record { base = Exist n; word = u }
HasFlow n u (Up x k) = x ≡ record { base = Exist n; word = u }

-- two of its `<=` lines and bounds of which the word of the one begins that of the other are one line, in which it stands on one side
pub record IsIdle (lines : List Line) (n : ℕ) : Type 0 where
  pub apart : (k l : Line) (u w : List Label) → Contains lines k → Contains lines l → HasFlow n u k → HasFlow n w l →
      Begins u w → k ≡ l
  pub one_side : (x y : Dtv) → Contains lines (Sub x y) → x.base ≡ Exist n → y.base ≡ Exist n → ⊥

-- the flags say which existentials are idle
abbrev pub AreIdle : List Line → (ℕ → Bool) → Type 0
AreIdle lines idle = (n : ℕ) → (idle n ≡ true) ↔ IsIdle lines n

-- the base is an existential that is idle by the flags
abbrev pub is_idle : (ℕ → Bool) → Base → Bool
is_idle idle (Proc n) = false
is_idle idle (Global n) = false
is_idle idle (Exist n) = idle n
is_idle idle (Outer n) = false

-- the line, or where an idle existential stands in it no more than that its variables are there and have one shape
abbrev pub trimmed_line : (ℕ → Bool) → Line → Line
trimmed_line idle (Var x) = Var x
trimmed_line idle (Same x y) = Same x y
trimmed_line idle (Sub x y) = cond (is_idle idle x.base || is_idle idle y.base) (Same x y) (Sub x y)
trimmed_line idle (Low k x) = cond (is_idle idle x.base) (Var x) (Low k x)
trimmed_line idle (Up x k) = cond (is_idle idle x.base) (Var x) (Up x k)

abbrev pub trimmed : (ℕ → Bool) → List Line → List Line
trimmed idle lines = map (trimmed_line idle) lines
