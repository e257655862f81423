-- Numbers for pairs of numbers.
use Rattle.std.specs.Prelude.{◌≡◌, ℕ, ◌+◌, ◌*◌, ◌<◌, length, slice_index}
use Rattle.rt_lattice.specs.declared.grid.Grid.{Grid}

-- the number for a pair
abbrev pub cell_of : Grid → ℕ → ℕ → ℕ
cell_of grid a b = slice_index grid.cells.items (a * grid.count + b)

-- The grid has a number for each pair that comes before the pair a, b, in rows of n, and the fact holds of each such
-- pair and its number.
pub record IsFilledTo (P : ℕ → ℕ → ℕ → Type 0) (n a b : ℕ) (grid : Grid) : Type 0 where
  pub counted : grid.count ≡ n
  pub full : length grid.cells.items ≡ a * n + b
  pub each : (p q : ℕ) → q < n → p * n + q < a * n + b → P p q (slice_index grid.cells.items (p * n + q))
