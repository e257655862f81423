use Rattle.std.proofs.Common.{◌≡◌, ℕ}
use Rattle.std.specs.HashMap.{get}
use Rattle.rt_track.specs.declared.nodes.Input.TheVariants.{Node}
use Rattle.rt_track.specs.Inside.Nodes.{value_in}
use Rattle.rt_track.specs.Operations.{number_in}
use Rattle.rt_track.specs.Placed.{place_eq}
use Rattle.rt_track.proofs.Entering.{upto}
use Rattle.rt_track.proofs.values.definition_values.Given as goal

abbrev pub invariant-loop-number : goal.invariant-loop-number
invariant-loop-number l = (s r : ℕ) → get place_eq l.values (s, r) ≡ upto l.number (λ n. value_in l.states (Node n)) (number_in l.ops s r)
