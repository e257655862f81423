-- Where counts above nought matter: at what can be read and written through, or has such a variable below it.
use Rattle.std.specs.Prelude.{◌≡◌, ℕ, ◌<◌, ◌⊎◌, List, Bool, true, false, Option, Some, None, length, slice_get, slice_index_or}
use Rattle.rt_lines.specs.declared.label.Label.{Label}
use Rattle.rt_lines.specs.declared.variable.Dtv.{Dtv}
use Rattle.rt_bridge.specs.Growing.{Var, dv}
use Rattle.rt_shape.specs.Graphs.{Graph, node_of, step_of}
use Rattle.rt_named.specs.Nodes.{flips_at}
use Rattle.rt_sat.specs.Numbered.{at_number}
use Rattle.rt_sat.specs.Pushes.{matter_at}

-- whether a node is marked, as those past the end are
abbrev pub mark_at : List Bool → Option ℕ → Bool
mark_at marks None = false
mark_at marks (Some n) = slice_index_or marks n true

-- each node is marked that has a load and a store, or a label to a marked one
abbrev pub AreMarked : Graph → List Bool → Type 0
AreMarked graph marks =
    (n m : ℕ) (l : Label) → step_of graph n l ≡ Some m →
    (flips_at graph (Some n) ≡ true) ⊎ (mark_at marks (Some m) ≡ true) →
    mark_at marks (Some n) ≡ true

-- counts above nought matter at the variable: its node is marked
abbrev pub Matters : Graph → List Bool → Var → Type 0
Matters graph marks x = mark_at marks (node_of graph (dv x)) ≡ true

-- the flags say of each variable whether its node is marked
abbrev pub AreMattering : Graph → List Bool → List Dtv → List Bool → Type 0
AreMattering graph marks known matters = (n : ℕ) → n < length known →
    matter_at matters n ≡ mark_at marks (node_of graph (at_number known n))

-- an edge of the graph keeps to the marks
abbrev pub IsKeptAt : Graph → List Bool → ℕ → Type 0
IsKeptAt graph marks i =
    (n m : ℕ) (l : Label) → slice_get graph.edges i ≡ Some ((n, l), m) → (flips_at graph (Some n) ≡ true) ⊎
    (mark_at marks (Some m) ≡ true) → mark_at marks (Some n) ≡ true
