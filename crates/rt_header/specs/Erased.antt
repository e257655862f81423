-- The header words that a tree admits.
use Rattle.std.specs.Prelude.{ℕ, pos, ◌==◌, Bool, true, false, Option, Some, None, List, [], ◌∷◌, slice_index_or, if◌then◌else◌}
use Rattle.std.specs.Option.{option_map, option_and_then}
use Rattle.rt_lines.specs.declared.label.Label.{Label}
use Rattle.rt_lines.specs.declared.label.Label.TheVariants.{In, Out}
use Rattle.rt_tree.specs.Trees.{Nodes, node_at, step_of}
use Rattle.rt_cdecl.specs.HeaderWords.{Letter, Pointee, At, HeaderWord}
use Rattle.rt_erase.specs.declared.row.Row.{Row}
use Rattle.rt_erase.specs.Rows.{fields_of, is_pointer, pointee_of, row_at, scalar_number}

-- a value of so many bits at a node, or what a pointer leads to
pub data Spot : Type 0 where
  OfValue : ℕ → ℕ → Spot
  OfPointee : ℕ → Spot

-- the value of a field
abbrev pub value_of : Row → Spot
value_of row = OfValue row.bits row.node

-- where a letter leads
abbrev pub after : Nodes → Letter → Spot → Option Spot
after tree Pointee (OfValue bits n) = if bits == 32 then option_map OfPointee (pointee_of tree n) else None
after tree (At bits (pos k)) (OfPointee n) = option_map value_of (row_at (fields_of (node_at tree n)) bits k)
after tree letter spot = None

-- where letters lead
abbrev pub after_all : Nodes → List Letter → Spot → Option Spot
after_all tree [] spot = Some spot
after_all tree (letter ∷ letters) spot = option_and_then (after_all tree letters) (after tree letter spot)

-- the labels of arguments and results
abbrev pub is_port : Label → Bool
is_port (In loc) = true
is_port (Out r) = true
is_port other = false

-- an argument or a result, which has 32 bits
abbrev pub port_spot : Nodes → Label → Option Spot
port_spot tree label = if is_port label then option_map (OfValue 32) (step_of tree 0 label) else None

-- the name of a scalar
abbrev pub scalar_of : List (List ℕ) → ℕ → ℕ → Nodes → Spot → Option (List ℕ)
scalar_of names top bottom tree (OfValue bits n) =
    if is_pointer tree bits n then None else Some (slice_index_or names (scalar_number top bottom (node_at tree n)) [])
scalar_of names top bottom tree (OfPointee n) = None

-- whether a tree admits a word, and with which scalar name
abbrev pub word_in : List (List ℕ) → ℕ → ℕ → Nodes → HeaderWord → Option (Option (List ℕ))
word_in names top bottom tree word =
    option_map (scalar_of names top bottom tree) (option_and_then (after_all tree word.letters) (port_spot tree word.port))
