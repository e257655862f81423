-- Graphs of nodes that take each other's values, and what their values are.
use Rattle.std.specs.Prelude.{◌≡◌, ◌⊎◌, ◌<◌, ℕ, ℤ, List, [], Option, Some, None, ◌++◌, Contains, length, slice_get, slice_index_or}
use Rattle.std.specs.Prelude.{slice_set, unwrap_or}
use Rattle.rt_track.specs.declared.value.Value.{Value}
use Rattle.rt_track.specs.declared.value.Value.TheVariants.{Multi}
use Rattle.rt_track.specs.declared.nodes.Input.{Input}
use Rattle.rt_track.specs.declared.nodes.Input.TheVariants as input
use Rattle.rt_track.specs.declared.nodes.Node.{Node}
use Rattle.rt_track.specs.declared.nodes.Node.TheVariants as node
use Rattle.rt_track.specs.Values.{plus, sum}

-- the values that a node may have, and those that are known
pub data Made (nodes : List Node) : Input → Value → Type 0 where
  known : {v : Value} → Made nodes (input.Known v) v
  fixed : {i : ℕ} {v : Value} → slice_get nodes i ≡ Some (node.Fixed v) → Made nodes (input.Node i) v
  left : {i : ℕ} {a b : Input} {v : Value} → slice_get nodes i ≡ Some (node.Join a b) → Made nodes a v →
      Made nodes (input.Node i) v
  right : {i : ℕ} {a b : Input} {v : Value} → slice_get nodes i ≡ Some (node.Join a b) → Made nodes b v →
      Made nodes (input.Node i) v
  raised : {i : ℕ} {a : Input} {k : ℤ} {v : Value} → slice_get nodes i ≡ Some (node.AddI a k) → Made nodes a v →
      Made nodes (input.Node i) (plus v k)
  added : {i s r : ℕ} {a b : Input} {v w : Value} → slice_get nodes i ≡ Some (node.Add a b s r) → Made nodes a v →
      Made nodes b w →
      Made nodes (input.Node i) (sum s r v w)
  several : {i : ℕ} {v w : Value} → Made nodes (input.Node i) v → Made nodes (input.Node i) w → (v ≡ w → ⊥) →
      Made nodes (input.Node i) Multi

-- what an input has, where this is what each node has: none, one value, or several
abbrev pub state_of : List (Option Value) → Input → Option Value
state_of states input.Nothing = None
state_of states (input.Known v) = Some v
state_of states (input.Node i) = slice_index_or states i None

-- a value that a node has by what its inputs have
abbrev pub Gives : List (Option Value) → Node → Value → Type 0
Gives states (node.Fixed w) v = Some w ≡ Some v
Gives states (node.Join a b) v = (state_of states a ≡ Some v) ⊎ (state_of states b ≡ Some v)
Gives states (node.AddI a k) v = (w : Value) × (state_of states a ≡ Some w) × (plus w k ≡ v)
Gives states (node.Add a b s r) v = (w : Value) × (u : Value) × (state_of states a ≡ Some w) × (state_of states b ≡ Some u) ×
    (sum s r w u ≡ v)

-- what a node has takes a value in
abbrev pub Covers : Option Value → Value → Type 0
Covers o v = (o ≡ Some v) ⊎ (o ≡ Some Multi)

-- a node has each value that it has by its inputs
abbrev pub IsClosed : List Node → List (Option Value) → ℕ → Type 0
IsClosed nodes states i = (n : Node) (v : Value) → slice_get nodes i ≡ Some n → Gives states n v →
    Covers (slice_index_or states i None) v

-- what each node has: a value that it may have, and each that it has by its inputs
pub record IsSolved (nodes : List Node) (states : List (Option Value)) : Type 0 where
  pub each : length states ≡ length nodes
  pub made : (i : ℕ) (v : Value) → slice_index_or states i None ≡ Some v → Made nodes (input.Node i) v
  pub closed : (i : ℕ) → i < length nodes → IsClosed nodes states i

-- what is taken in with all that a node has by its inputs, and where it comes from
pub record IsGiven (states : List (Option Value)) (n : Node) (given : Option Value) : Type 0 where
  pub all : (o : Option Value) → ((v : Value) → given ≡ Some v → Covers o v) → (v : Value) → Gives states n v → Covers o v
  pub made : (v : Value) → given ≡ Some v → Gives states n v ⊎
      ((v ≡ Multi) × ((a : Value) × (b : Value) × Gives states n a × Gives states n b × (a ≡ b → ⊥)))

-- either value, or several where they differ
abbrev pub IsJoined : Option Value → Option Value → Option Value → Type 0
IsJoined None b r = r ≡ b
IsJoined (Some v) None r = r ≡ Some v
IsJoined (Some v) (Some w) r = ((v ≡ w) × (r ≡ Some v)) ⊎ ((v ≡ w → ⊥) × (r ≡ Some Multi))

-- what a node has next, where it didn't take a value in
abbrev pub IsRisen : Option Value → Value → Value → Type 0
IsRisen None value v = v ≡ value
IsRisen (Some w) value v = (w ≡ value → ⊥) × (w ≡ Multi → ⊥) × (v ≡ Multi)

-- a node rose to a value
pub record Rises (nodes : List Node) (states : List (Option Value)) (i : ℕ) (v : Value) : Type 0 where
  pub node : Node
  pub at : slice_get nodes i ≡ Some node
  pub value : Value
  pub given : IsGiven states node (Some value)
  pub risen : IsRisen (slice_index_or states i None) value v

-- a node was visited: it was closed, or it rose and those that take its value are to be visited too
abbrev pub Visits : List Node → List (List ℕ) → ℕ → List (Option Value) → List ℕ → List (Option Value) →
    List ℕ → Type 0
Visits nodes readers i states work states' work' =
    ((states' ≡ states) × (work' ≡ work) × IsClosed nodes states i)
    ⊎ ((v : Value) × Rises nodes states i v × (states' ≡ slice_set states i (Some v)) ×
    (work' ≡ work ++ slice_index_or readers i []))

-- a node takes an input
abbrev pub Takes : Node → Input → Type 0
Takes (node.Fixed w) x = ⊥
Takes (node.Join a b) x = (a ≡ x) ⊎ (b ≡ x)
Takes (node.AddI a k) x = a ≡ x
Takes (node.Add a b s r) x = (a ≡ x) ⊎ (b ≡ x)

-- a node was added to those that take the value of an input, if it is a node's
pub record Notes (old : List (List ℕ)) (x : Input) (reader : ℕ) (new : List (List ℕ)) : Type 0 where
  pub each : length new ≡ length old
  pub kept : (i j : ℕ) → Contains (slice_index_or old i []) j → Contains (slice_index_or new i []) j
  pub noted : (i : ℕ) → i < length old → x ≡ input.Node i → Contains (slice_index_or new i []) reader
  pub only : (i j : ℕ) → Contains (slice_index_or new i []) j → Contains (slice_index_or old i []) j ⊎ (j ≡ reader)

-- the same for two inputs
abbrev pub NotesBoth : List (List ℕ) → Input → Input → ℕ → List (List ℕ) → Type 0
NotesBoth old a b reader new = (mid : List (List ℕ)) × Notes old a reader mid × Notes mid b reader new

-- the same for each input of a node
pub record NotesNode (old : List (List ℕ)) (n : Node) (reader : ℕ) (new : List (List ℕ)) : Type 0 where
  pub each : length new ≡ length old
  pub kept : (i j : ℕ) → Contains (slice_index_or old i []) j → Contains (slice_index_or new i []) j
  pub noted : (i : ℕ) → i < length old → Takes n (input.Node i) → Contains (slice_index_or new i []) reader
  pub only : (i j : ℕ) → Contains (slice_index_or new i []) j → Contains (slice_index_or old i []) j ⊎ (j ≡ reader)

-- for each node those that take its value
pub record AreReaders (nodes : List Node) (readers : List (List ℕ)) : Type 0 where
  pub each : length readers ≡ length nodes
  pub all : (i j : ℕ) (n : Node) → i < length nodes → slice_get nodes j ≡ Some n → Takes n (input.Node i) →
      Contains (slice_index_or readers i []) j
  pub within : (i j : ℕ) → Contains (slice_index_or readers i []) j → j < length nodes

-- the value of an input: several, if it may have none
abbrev pub value_in : List (Option Value) → Input → Value
value_in states x = unwrap_or (state_of states x) Multi
