-- Variables in the place of existentials.
use Rattle.std.specs.Prelude.{◌≡◌, ◌≢◌, ℕ, ◌⊎◌, List, [], map, All, Contains, Option, Some, None, cond, nat_eq}
use Rattle.rt_lines.specs.declared.label.Label.{Label}
use Rattle.rt_lines.specs.declared.variable.Base.{Base}
use Rattle.rt_lines.specs.declared.variable.Base.TheVariants.{Proc, Global, Exist, Outer}
use Rattle.rt_lines.specs.declared.label.Variance.{Variance}
use Rattle.rt_lines.specs.declared.label.Variance.TheVariants.{Co, Contra}
use Rattle.rt_lines.specs.declared.variable.Dtv.{Dtv}
use Rattle.rt_lines.specs.declared.line.Line.{Line}
use Rattle.rt_lines.specs.declared.line.Line.TheVariants.{Var, Same, Sub, Low, Up}
use Rattle.rt_lines.specs.Words.{variance_of_word, times}
use Rattle.rt_lines.specs.Orders.{Below}
use Rattle.rt_rules.specs.Rules.{extended, Derivable}
use Rattle.rt_rules.specs.Alike.{map_line}

-- the existential with no letter
abbrev pub exist : ℕ → Dtv
exist n = record { base = Exist n; word = [] }

-- the variable of the base and the word, with z in the place of the existential n
abbrev pub put_at : ℕ → Dtv → Base → List Label → Dtv
put_at n z (Exist m) w = cond (nat_eq m n) (extended z w) (record { base = Exist m; word = w })
put_at n z (Proc m) w = record { base = Proc m; word = w }
put_at n z (Global m) w = record { base = Global m; word = w }
put_at n z (Outer m) w = record { base = Outer m; word = w }

-- the variable with z in the place of the existential n
abbrev pub put : ℕ → Dtv → Dtv → Dtv
put n z x = put_at n z x.base x.word

-- the lines with z in the place of the existential n
abbrev pub put_lines : ℕ → Dtv → List Line → List Line
put_lines n z lines = map (map_line (put n z)) lines

-- a use of the existential n: a defining one at Co, a consuming one at Contra
abbrev pub HasUse : Variance → ℕ → Line → Type 0
HasUse sign n (Var x) = ⊥
HasUse sign n (Same x y) = ⊥
HasUse sign n (Sub x y) = ((x.base ≡ Exist n) × (variance_of_word x.word ≡ times Contra sign)) ⊎
    ((y.base ≡ Exist n) × (variance_of_word y.word ≡ sign))
HasUse sign n (Low k y) = (y.base ≡ Exist n) × (variance_of_word y.word ≡ sign)
HasUse sign n (Up x k) = (x.base ≡ Exist n) × (variance_of_word x.word ≡ times Contra sign)

-- z <= n at Co, n <= z at Contra
abbrev pub use_of : Variance → ℕ → Dtv → Line
use_of Co n z = Sub z (exist n)
use_of Contra n z = Sub (exist n) z

-- z, of another base, is all that defines the existential n, or all that consumes it
pub record IsOnlyUse (sign : Variance) (n : ℕ) (z : Dtv) (lines : List Line) : Type 0 where
  pub other_base : z.base ≢ Exist n
  pub stands : Contains lines (use_of sign n z)
  pub only : All (λ l. (l ≡ use_of sign n z) ⊎ (HasUse sign n l → ⊥)) lines

-- the variable of the base and the word, with what is in the base's place, if anything is
abbrev pub put_found : Option Dtv → Base → List Label → Dtv
put_found (Some z) b w = extended z w
put_found None b w = record { base = b; word = w }

-- the variable of the base and the word, with what is in its place where the base is an existential that has one
abbrev pub put_each_at : (ℕ → Option Dtv) → Base → List Label → Dtv
put_each_at place (Exist n) w = put_found (place n) (Exist n) w
put_each_at place (Proc n) w = record { base = Proc n; word = w }
put_each_at place (Global n) w = record { base = Global n; word = w }
put_each_at place (Outer n) w = record { base = Outer n; word = w }

-- the variable with what is in its existential's place
abbrev pub put_each : (ℕ → Option Dtv) → Dtv → Dtv
put_each place x = put_each_at place x.base x.word

-- what is in the place of an existential is all that defines it, and has no base that is put away itself
pub record IsPutting (place : ℕ → Option Dtv) (lines : List Line) : Type 0 where
  pub only : (n : ℕ) (z : Dtv) → place n ≡ Some z → IsOnlyUse Co n z lines
  pub apart : (n : ℕ) (z : Dtv) (m : ℕ) → place n ≡ Some z → z.base ≡ Exist m → place m ≡ None

-- the line defines the existential n by what becomes z, so that it becomes one of z alone
abbrev pub BecomesSelf : (ℕ → Option Dtv) → ℕ → Dtv → Line → Type 0
BecomesSelf place n z l = (w : Dtv) × (l ≡ Sub w (exist n)) × (put_each place w ≡ z)

-- what is in the place of an existential lies below it, and is what each of its definitions becomes
pub record IsFollowing (place : ℕ → Option Dtv) (lines : List Line) : Type 0 where
  pub below : (n : ℕ) (z : Dtv) → place n ≡ Some z → (order : Below) → Derivable order lines (Sub z (exist n))
  pub becomes : (n : ℕ) (z : Dtv) (l : Line) → place n ≡ Some z → Contains lines l →
      BecomesSelf place n z l ⊎ (HasUse Co n l → ⊥)
