-- The nodes of named variables in the shape of lines.
use Rattle.std.specs.Prelude.{◌≡◌, ℕ, ◌<◌, List, Bool, ◌&&◌, false, Option, Some, None, is_some, length, slice_index_or}
use Rattle.rt_lines.specs.declared.label.Label.{Label}
use Rattle.rt_lines.specs.declared.label.Label.TheVariants.{Load, Store}
use Rattle.rt_lines.specs.declared.variable.Dtv.{Dtv}
use Rattle.rt_shape.specs.Graphs.{Graph, bare, node_of, step_of}
use Rattle.rt_named.specs.Origins.{no_variable}
use Rattle.rt_named.specs.declared.origin.Origin.{Origin}
use Rattle.rt_named.specs.declared.origin.Origin.TheVariants.{Bare, Longer}

-- the node after a node, if there is one
abbrev pub stepped : Graph → Option ℕ → Label → Option ℕ
stepped graph None l = None
stepped graph (Some n) l = step_of graph n l

-- the node of a variable that is made of an earlier one, by the nodes of those
abbrev pub node_made : Graph → List (Option ℕ) → Origin → Option ℕ
node_made graph nodes (Bare b) = node_of graph (bare b)
node_made graph nodes (Longer n l) = stepped graph (slice_index_or nodes n None) l

-- the node has a load and a store
abbrev pub flips_at : Graph → Option ℕ → Bool
flips_at graph None = false
flips_at graph (Some n) = is_some (step_of graph n Load) && is_some (step_of graph n Store)

-- the nodes of all named variables
pub record AreNodesOf (graph : Graph) (named : List Dtv) (nodes : List (Option ℕ)) : Type 0 where
  pub each : length nodes ≡ length named
  pub node : (n : ℕ) → n < length named → slice_index_or nodes n None ≡ node_of graph (slice_index_or named n no_variable)

-- each flag says whether its node has a load and a store
pub record AreFlipsOf (graph : Graph) (nodes : List (Option ℕ)) (flips : List Bool) : Type 0 where
  pub each : length flips ≡ length nodes
  pub flag : (n : ℕ) → n < length nodes → slice_index_or flips n false ≡ flips_at graph (slice_index_or nodes n None)
