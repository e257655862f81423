-- Lists at whose end items were added.
use Rattle.std.specs.Prelude.{◌≡◌, ◌⊎◌, List, ◌++◌, Contains}

-- each item that is added has a property, and each that has it is there
pub record Adds {X : Type 0} (old new : List X) (P : X → Type 0) : Type 0 where
  pub rest : List X
  pub front : new ≡ old ++ rest
  pub added : (x : X) → P x → Contains new x
  pub only : (x : X) → Contains new x → Contains old x ⊎ P x
