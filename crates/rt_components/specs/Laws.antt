-- Laws of groups.
use Rattle.std.specs.Prelude.{◌≡◌, ℕ, List, length}
use Rattle.rt_components.specs.Graphs.{HasEdge}
use Rattle.rt_components.specs.Groups.{AreGroups}

-- a graph has one list of groups alone
abbrev pub OneOrder : Type 0
OneOrder =
    (graph groups others : List (List ℕ)) → AreGroups (length graph) (HasEdge graph) groups →
    AreGroups (length graph) (HasEdge graph) others → groups ≡ others
