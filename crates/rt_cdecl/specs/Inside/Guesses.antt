-- What is read of a text that may be that of something.
use Rattle.std.specs.Prelude.{◌≡◌, ℕ, ◌<◌, ◌||◌, List, [], ◌∷◌, ◌++◌, Bool, true, nat_lt, Result, MatchResult}
use Rattle.rt_texts.specs.declared.fault.TextFault.{TextFault}
use Rattle.rt_texts.specs.declared.fault.TextFault.TheVariants.{Memory}

-- the value, unless memory ran out
abbrev pub Gives : {X : Type 0} → X → Result X TextFault → Type 0
Gives {X} x r = MatchResult r (λ y. y ≡ x) (λ e. e ≡ Memory)

-- digits
abbrev pub AreDigits : List ℕ → Type 0
AreDigits [] = Unit {0}
AreDigits (b ∷ bs) = (47 < b) × (b < 58) × AreDigits bs

-- whether a byte is no digit
abbrev pub is_other : ℕ → Bool
is_other b = nat_lt b 48 || nat_lt 57 b

-- a text does not begin with a digit
abbrev pub StopsDigits : List ℕ → Type 0
StopsDigits [] = Unit {0}
StopsDigits (b ∷ bs) = is_other b ≡ true

-- the digits that a text begins with, and what follows them
pub record AreFirstDigits (text digits rest : List ℕ) : Type 0 where
  pub joined : text ≡ digits ++ rest
  pub are : AreDigits digits
  pub stops : StopsDigits rest
