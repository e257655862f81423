-- What the searches for least upper and greatest lower bounds know.
use Rattle.std.specs.Prelude.{ℕ, ◌<◌}
use Rattle.rt_lattice.specs.Bounds.{IsLeastUpper}

-- an upper bound of a and b, at or below their least one, where that is below the limit
pub record IsLowUpper (R : ℕ → ℕ → Type 0) (n a b limit low : ℕ) : Type 0 where
  pub within : low < n
  pub first : R a low
  pub second : R b low
  pub low_enough : (c : ℕ) → c < limit → IsLeastUpper R n a b c → R low c

-- at or below each upper bound of a and b below the limit
abbrev pub IsBelowUppers : (ℕ → ℕ → Type 0) → ℕ → ℕ → ℕ → ℕ → Type 0
IsBelowUppers R a b limit low = (c : ℕ) → c < limit → R a c → R b c → R low c

-- a lower bound of a and b, at or above each one below the limit
pub record IsHighLower (R : ℕ → ℕ → Type 0) (n a b limit high : ℕ) : Type 0 where
  pub within : high < n
  pub first : R high a
  pub second : R high b
  pub high_enough : (c : ℕ) → c < limit → R c a → R c b → R c high
