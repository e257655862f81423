-- A schedule: its number, and the claims that were done, as worker and group.
use Rattle.std.specs.Prelude.{ℕ, List}

pub record Claimed : Type 0 where
  pub number : ℕ
  pub claims : List (ℕ × ℕ)
