-- Room for comparing trees.
use Rattle.std.specs.Prelude.{ℕ}

-- of how many nodes the first tree and the second may be
pub record Room : Type 0 where
  pub first : ℕ
  pub second : ℕ
