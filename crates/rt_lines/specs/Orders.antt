-- The order of constants that derivations use.
use Rattle.std.specs.Prelude.{◌≡◌, ℕ, ◌+◌, ◌*◌, ◌<◌, ◌⊎◌, List, Bool, IsTrue, slice_index_or, false}

-- a count, and for each pair of numbers below it whether the first is below the second
pub record Below : Type 0 where
  pub count : ℕ
  pub cells : List Bool

-- the first number is the second one, or both are below the count and the first is below the second
abbrev pub IsAtOrBelow : Below → ℕ → ℕ → Type 0
IsAtOrBelow order a b =
    (a ≡ b) ⊎ ((a < order.count) × (b < order.count) × IsTrue (slice_index_or order.cells (a * order.count + b) false))
