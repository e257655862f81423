-- A walk along the edges of a graph, on its way to the classes of nodes that are together.
use Rattle.std.specs.Prelude.{◌≡◌, ℕ, ◌+◌, ◌*◌, ◌-◌, ◌<◌, ◌≤◌, ◌⊎◌, ◌↔◌, List, [], ◌∷◌, length, Contains, slice_get, slice_index}
use Rattle.std.specs.Prelude.{slice_index_or, Some}
use Rattle.rt_components.specs.Graphs.{successors, HasEdge}
use Rattle.rt_components.specs.Groups.{Reaches, AreTogether}
use Rattle.rt_components.specs.declared.walk.State.{State}
use Rattle.rt_components.specs.declared.walk.State.TheVariants.{Unseen, OnPath, InClass}
use Rattle.rt_components.specs.declared.walk.Walk.{Walk}

-- how far the walk is with a node
abbrev pub state_of : List State → ℕ → State
state_of state a = slice_index_or state a Unseen

-- each number is below those after it
abbrev pub Rises : List ℕ → Type 0
Rises xs = (i j : ℕ) → i < j → j < length xs → slice_index xs i < slice_index xs j

-- the list ends in the number
abbrev pub IsLast : List ℕ → ℕ → Type 0
IsLast xs x = slice_get xs (length xs - 1) ≡ Some x

-- the component of the second place is that of the first or a later one, as none begins after the second and not after
-- the first
abbrev pub IsNotBefore : List ℕ → ℕ → ℕ → Type 0
IsNotBefore starts i j = (s : ℕ) → Contains starts s → s ≤ i → s ≤ j

-- the node is in a class, or on the path in the component of a place or a later one
abbrev pub IsMet : List State → List ℕ → ℕ → ℕ → Type 0
IsMet state starts i a = ((g : ℕ) × (state_of state a ≡ InClass g)) ⊎
    ((j : ℕ) × (state_of state a ≡ OnPath j) × IsNotBefore starts i j)

-- an edge that was followed from the node, at a place, leads to a node that is in a class or lies on
abbrev pub LeadsOn : List (List ℕ) → List State → List ℕ → List ℕ → ℕ → ℕ → Type 0
LeadsOn graph state followed starts i a =
    (e : ℕ) → e < slice_index followed a → e < length (successors graph a) →
    IsMet state starts i (slice_index (successors graph a) e)

-- the node has no edge left to follow
abbrev pub IsSpent : List (List ℕ) → List ℕ → ℕ → Type 0
IsSpent graph followed a = length (successors graph a) ≤ slice_index followed a

-- The classes that are whole are those of nodes that are together. An edge from one leads to one of the same number or
-- of a lower one.
pub record AreWhole (graph : List (List ℕ)) (state : List State) (heads : List ℕ) : Type 0 where
  pub within : (a g : ℕ) → state_of state a ≡ InClass g → (a < length graph) × (g < length heads)
  pub some : (g : ℕ) → g < length heads → state_of state (slice_index heads g) ≡ InClass g
  pub down : (a b g : ℕ) → state_of state a ≡ InClass g → HasEdge graph a b →
      (h : ℕ) × (state_of state b ≡ InClass h) × (h ≤ g)
  pub together : (a b g h : ℕ) → state_of state a ≡ InClass g → state_of state b ≡ InClass h →
      (g ≡ h) ↔ AreTogether (HasEdge graph) a b

-- The path: each of its nodes knows its place. Each place is in a component. Places that are not pending have no edge
-- left to follow. An edge that was followed leads on, and what lies on is reached.
pub record IsPath (graph : List (List ℕ)) (state : List State) (followed path starts pending : List ℕ) : Type 0 where
  pub state_each : length state ≡ length graph
  pub followed_each : length followed ≡ length graph
  pub unseen : (a : ℕ) → state_of state a ≡ Unseen → slice_index followed a ≡ 0
  pub place_of : (a i : ℕ) → state_of state a ≡ OnPath i → (i < length path) × (slice_index path i ≡ a)
  pub node_at : (i : ℕ) → i < length path → (slice_index path i < length graph) × (state_of state (slice_index path i) ≡ OnPath i)
  pub starts_rise : Rises starts
  pub starts_pending : (s : ℕ) → Contains starts s → Contains pending s
  pub pending_rise : Rises pending
  pub pending_in : (i : ℕ) → Contains pending i → i < length path
  pub begun : (i : ℕ) → i < length path → (s : ℕ) × Contains starts s × (s ≤ i)
  pub spent : (i : ℕ) → i < length path → (Contains pending i → ⊥) → IsSpent graph followed (slice_index path i)
  pub leads : (i : ℕ) → i < length path → LeadsOn graph state followed starts i (slice_index path i)
  pub reached : (i j : ℕ) → i < length path → j < length path → IsNotBefore starts i j →
      Reaches (HasEdge graph) (slice_index path i) (slice_index path j)

-- a walk along the edges of a graph
pub record IsWalk (graph : List (List ℕ)) (walk : Walk) : Type 0 where
  pub on_path : IsPath graph walk.state.items walk.followed.items walk.path.items walk.starts.items walk.pending.items
  pub whole : AreWhole graph walk.state.items walk.heads.items

-- every node on the path reaches the node
abbrev pub AllReach : List (List ℕ) → Walk → ℕ → Type 0
AllReach graph walk a = (i : ℕ) → i < length walk.path.items → Reaches (HasEdge graph) (slice_index walk.path.items i) a

-- the walk may put the node at the end of the path
pub record MayEnter (graph : List (List ℕ)) (walk : Walk) (a : ℕ) : Type 0 where
  pub is_walk : IsWalk graph walk
  pub within : a < length graph
  pub unseen : state_of walk.state.items a ≡ Unseen
  pub all_reach : AllReach graph walk a

-- of numbers that rise, those up to a place
pub record IsFrontUpTo (old new : List ℕ) (place : ℕ) : Type 0 where
  pub rises : Rises new
  pub only : (s : ℕ) → Contains new s → Contains old s × (s ≤ place)
  pub kept : (s : ℕ) → Contains old s → s ≤ place → Contains new s

-- the walk may come to the node
pub record MayReach (graph : List (List ℕ)) (walk : Walk) (a : ℕ) : Type 0 where
  pub is_walk : IsWalk graph walk
  pub within : a < length graph
  pub all_reach : AllReach graph walk a

-- each node on a path knows its place
pub record AreOnPath (state : List State) (path : List ℕ) : Type 0 where
  pub place_of : (a i : ℕ) → state_of state a ≡ OnPath i → (i < length path) × (slice_index path i ≡ a)
  pub node_at : (i : ℕ) → i < length path → (slice_index path i < length state) × (state_of state (slice_index path i) ≡ OnPath i)

-- of the nodes on the path those from a place on come into a class, and the others stay as they are
pub record IsClosedFrom (old new : List State) (place class : ℕ) : Type 0 where
  pub each : length new ≡ length old
  pub off : (a i : ℕ) → state_of old a ≡ OnPath i → place ≤ i → state_of new a ≡ InClass class
  pub on : (a i : ℕ) → state_of old a ≡ OnPath i → i < place → state_of new a ≡ OnPath i
  pub whole : (a g : ℕ) → state_of old a ≡ InClass g → state_of new a ≡ InClass g
  pub unseen : (a : ℕ) → state_of old a ≡ Unseen → state_of new a ≡ Unseen

-- the place is the last that is pending
pub record MayStep (graph : List (List ℕ)) (walk : Walk) (place : ℕ) : Type 0 where
  pub is_walk : IsWalk graph walk
  pub last : IsLast walk.pending.items place

-- the place is the last that is pending, and its node has no edge left to follow
pub record MayLeave (graph : List (List ℕ)) (walk : Walk) (place : ℕ) : Type 0 where
  pub may_step : MayStep graph walk place
  pub spent : IsSpent graph walk.followed.items (slice_index walk.path.items place)

-- the node is in a class, or on the path in the last component
abbrev pub IsMetLast : Walk → ℕ → Type 0
IsMetLast walk a = ((g : ℕ) × (state_of walk.state.items a ≡ InClass g)) ⊎
    ((j : ℕ) × (state_of walk.state.items a ≡ OnPath j) × ((s : ℕ) → Contains walk.starts.items s → s ≤ j))

-- what the walk has come to, it has come to later
abbrev pub KeepsSeen : Walk → Walk → Type 0
KeepsSeen old new = (a : ℕ) → state_of new.state.items a ≡ Unseen → state_of old.state.items a ≡ Unseen

-- the walk is at rest: its path is empty
pub record IsAtRest (graph : List (List ℕ)) (walk : Walk) : Type 0 where
  pub is_walk : IsWalk graph walk
  pub empty : walk.path.items ≡ []

-- the walk is at rest, and the node is one of the graph
pub record MayVisit (graph : List (List ℕ)) (walk : Walk) (a : ℕ) : Type 0 where
  pub rest : IsAtRest graph walk
  pub within : a < length graph

-- each node is in a class
abbrev pub AreInClasses : List State → Type 0
AreInClasses state = (a : ℕ) → a < length state → (g : ℕ) × (state_of state a ≡ InClass g)

-- the numbers of the nodes' classes
pub record AreNumbersOf (state : List State) (class : List ℕ) : Type 0 where
  pub each : length class ≡ length state
  pub same : (a g : ℕ) → state_of state a ≡ InClass g → slice_index class a ≡ g

-- how many edges are left to follow
abbrev pub left : List (List ℕ) → List ℕ → ℕ
left [] followed = 0
left (nodes ∷ graph) [] = length nodes + left graph []
left (nodes ∷ graph) (n ∷ followed) = (length nodes - n) + left graph followed

-- how much is left to do: an edge may make a place pending
abbrev pub work : List (List ℕ) → Walk → ℕ
work graph walk = 2 * left graph walk.followed.items + length walk.pending.items
