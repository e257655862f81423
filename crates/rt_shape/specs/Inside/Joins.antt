-- What is known while nodes are made one.
use Rattle.std.specs.Prelude.{◌≡◌, ℕ, ◌+◌, ◌<◌, List, [], Contains, length, sum_by, Some, slice_index, slice_index_or}
use Rattle.std.specs.Map.{lookup}
use Rattle.rt_lines.specs.declared.label.Label.{Label}
use Rattle.rt_shape.specs.declared.joining.Joining.{Joining}
use Rattle.rt_shape.specs.Graphs.{Graph, letter_eq, step_of}
use Rattle.rt_shape.specs.Inside.Classes.{pointed, Joined}

-- how much is left to do: pairs, and letters that may become pairs
abbrev pub work : Joining → ℕ
work s = length s.todo.items + sum_by length s.letters.items

-- a label that is the letter, but for stores, leads to the node from one that has to be one with the class's name
abbrev pub Leads : Graph → List (ℕ × ℕ) → ℕ → Label → ℕ → Type 0
Leads graph pairs c l t = (t < graph.count) ×
    ((k : ℕ) × (j : Label) × Joined graph pairs k c × (pointed j ≡ l) × (step_of graph k j ≡ Some t))

-- nodes below n, each alone in a list
pub record AreAlone (n : ℕ) (members : List (List ℕ)) : Type 0 where
  pub each : length members ≡ n
  pub own : (c k : ℕ) → Contains (slice_index_or members c []) k → (c ≡ k) × (k < n)

-- so many empty lists
pub record AreEmpty {X : Type 0} (n : ℕ) (letters : List (List X)) : Type 0 where
  pub each : length letters ≡ n
  pub none : (c : ℕ) (x : X) → Contains (slice_index_or letters c []) x → ⊥

-- what is in one class has to be one, and so has what is left to do
pub record AreSound (graph : Graph) (pairs : List (ℕ × ℕ)) (class : List ℕ) (members : List (List ℕ))
    (letters : List (List (Label × ℕ))) (first : List ((ℕ × Label) × ℕ)) (todo : List (ℕ × ℕ)) : Type 0 where
  pub each : length class ≡ graph.count
  pub members_each : length members ≡ graph.count
  pub letters_each : length letters ≡ graph.count
  pub class_joined : (i : ℕ) → i < graph.count → (slice_index class i < graph.count) × Joined graph pairs i (slice_index class i)
  pub members_joined : (c k : ℕ) → Contains (slice_index_or members c []) k → (k < graph.count) × Joined graph pairs k c
  pub letters_lead : (c : ℕ) (l : Label) (t : ℕ) → Contains (slice_index_or letters c []) (l, t) → Leads graph pairs c l t
  pub first_leads : (c : ℕ) (l : Label) (t : ℕ) → lookup (letter_eq (c, l)) first ≡ Some t → Leads graph pairs c l t
  pub todo_joined : (i j : ℕ) → Contains todo (i, j) → (i < graph.count) × (j < graph.count) × Joined graph pairs i j

-- the same of what a program holds
abbrev pub IsSound : Graph → List (ℕ × ℕ) → Joining → Type 0
IsSound graph pairs s = AreSound graph pairs s.class.items s.members.items s.letters.items s.first.entries s.todo.items

-- it is sound over some graph in which the letter leads from the class to the node
abbrev pub MayEnter : Joining → ℕ → Label → ℕ → Type 0
MayEnter s c l t = (graph : Graph) × (pairs : List (ℕ × ℕ)) × IsSound graph pairs s × (c < graph.count) × Leads graph pairs c l t

-- it is sound over some graph in which the two have to be one
abbrev pub MayJoin : Joining → ℕ → ℕ → Type 0
MayJoin s m n = (graph : Graph) × (pairs : List (ℕ × ℕ)) × IsSound graph pairs s × (m < graph.count) × (n < graph.count) ×
    Joined graph pairs m n
