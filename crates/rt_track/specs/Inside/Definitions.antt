-- The values of definitions with an operation.
use Rattle.std.specs.Prelude.{◌≡◌, ℕ, List, Option}
use Rattle.std.specs.HashMap.{get, HashMap}
use Rattle.std.specs.Option.{option_map}
use Rattle.rt_track.specs.declared.ops.Ops.{Ops}
use Rattle.rt_track.specs.declared.value.Value.{Value}
use Rattle.rt_track.specs.declared.nodes.Input.TheVariants as input
use Rattle.rt_track.specs.Inside.Nodes.{value_in}
use Rattle.rt_track.specs.Operations.{number_in}
use Rattle.rt_track.specs.Placed.{place_eq}

-- each definition with an operation has the value of its node, and the others have none here
abbrev pub AreDefinitions : {S : Type 0} → Ops → List (Option Value) → HashMap (ℕ × ℕ) Value S → Type 0
AreDefinitions ops states values = (s r : ℕ) →
    get place_eq values (s, r) ≡ option_map (λ n. value_in states (input.Node n)) (number_in ops s r)
