-- Numbers that are noted behind others.
use Rattle.std.specs.Prelude.{◌≡◌, ℕ, ◌⊎◌, List, ◌++◌, Contains}

-- to those that were found, all of which something holds are added behind
pub record IsLeft (P : ℕ → Type 0) (old new : List ℕ) : Type 0 where
  pub more : List ℕ
  pub kept : new ≡ old ++ more
  pub all : (w : ℕ) → P w → Contains new w
  pub only : (w : ℕ) → Contains new w → Contains old w ⊎ P w
