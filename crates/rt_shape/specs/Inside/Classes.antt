-- Nodes that have to be one, and classes of nodes.
use Rattle.std.specs.Prelude.{◌≡◌, ℕ, ◌+◌, ◌<◌, ◌↔◌, ◌==◌, if◌then◌else◌, min, max, List, Contains, length, Option, Some, None, slice_index}
use Rattle.std.specs.Prelude.{slice_index_or, slice_set}
use Rattle.std.specs.Map.{lookup}
use Rattle.rt_lines.specs.declared.label.Label.{Label}
use Rattle.rt_lines.specs.declared.label.Label.TheVariants.{In, Out, Load, Store, Field}
use Rattle.rt_lines.specs.declared.variable.Base.{Base}
use Rattle.rt_lines.specs.Equality.{base_eq}
use Rattle.rt_shape.specs.Graphs.{Graph, letter_eq, base_of, step_of}

-- a label, but that a store counts as a load
abbrev pub pointed : Label → Label
pointed (In a) = In a
pointed (Out n) = Out n
pointed Load = Load
pointed Store = Load
pointed (Field w k) = Field w k

-- what has to be one: the pairs, and what one label leads to, or a load and a store
pub data Joined (graph : Graph) (pairs : List (ℕ × ℕ)) : ℕ → ℕ → Type 0 where
  joined_pair : {i j : ℕ} → Contains pairs (i, j) → Joined graph pairs i j
  joined_self : {i : ℕ} → Joined graph pairs i i
  joined_back : {i j : ℕ} → Joined graph pairs i j → Joined graph pairs j i
  joined_chain : {i j k : ℕ} → Joined graph pairs i j → Joined graph pairs j k → Joined graph pairs i k
  joined_letter : {i j m n : ℕ} (l k : Label) → pointed l ≡ pointed k → Joined graph pairs i j → step_of graph i l ≡ Some m →
      step_of graph j k ≡ Some n → Joined graph pairs m n

-- a class for each node, named by a node that has to be one with it
pub record AreClasses (graph : Graph) (pairs : List (ℕ × ℕ)) (class : List ℕ) : Type 0 where
  pub each : length class ≡ graph.count
  pub within : (i : ℕ) → i < graph.count → slice_index class i < graph.count
  pub sound : (i : ℕ) → i < graph.count → Joined graph pairs i (slice_index class i)

-- from nodes of one class one label leads to nodes of one class, and so do a load and a store
abbrev pub AreStepsOne : Graph → List ℕ → Type 0
AreStepsOne graph class =
    (i j m n : ℕ) (l k : Label) → pointed l ≡ pointed k → slice_index class i ≡ slice_index class j →
    step_of graph i l ≡ Some m → step_of graph j k ≡ Some n → slice_index class m ≡ slice_index class n

-- from nodes of one class one label leads to the two nodes of two classes, or a load and a store do
pub record AreApart (graph : Graph) (class : List ℕ) (m n : ℕ) : Type 0 where
  pub from : (i : ℕ) × (j : ℕ) × (l : Label) × (k : Label) × (i < graph.count) × (j < graph.count) × (pointed l ≡ pointed k) ×
      (slice_index class i ≡ slice_index class j) × (step_of graph i l ≡ Some m) × (step_of graph j k ≡ Some n)
  pub within : (m < graph.count) × (n < graph.count)
  pub apart : slice_index class m ≡ slice_index class n → ⊥

-- nothing is left to be made one
pub record IsClosed (graph : Graph) (pairs : List (ℕ × ℕ)) (class : List ℕ) : Type 0 where
  pub pairs_one : (i j : ℕ) → Contains pairs (i, j) → slice_index class i ≡ slice_index class j
  pub steps_one : AreStepsOne graph class

-- a class, where the greater of two is renamed into the lesser
abbrev pub renamed_class : ℕ → ℕ → ℕ → ℕ
renamed_class a b c = if c == max a b then min a b else c

-- the two nodes have to be one, and are in two classes
pub record IsViolated (graph : Graph) (pairs : List (ℕ × ℕ)) (class : List ℕ) (i j : ℕ) : Type 0 where
  pub first_in : i < graph.count
  pub second_in : j < graph.count
  pub joined : Joined graph pairs i j
  pub apart : slice_index class i ≡ slice_index class j → ⊥

-- the number of a class is the known one, or where none is known the next one, which is known from then on
pub data IsNumberOf (class : ℕ) (known : List (Option ℕ)) (count : ℕ) (number : ℕ) (after : List (Option ℕ)) (next : ℕ) : Type 0 where
  is_known : slice_index_or known class None ≡ Some number → after ≡ known → next ≡ count → IsNumberOf class known count number after next
  is_next : slice_index_or known class None ≡ None → after ≡ slice_set known class (Some count) → next ≡ count + 1 → number ≡ count →
      IsNumberOf class known count number after next

-- the classes numbered from 0, each by all numbers below the count
pub record IsNumbering (class : List ℕ) (number : List ℕ) (count : ℕ) : Type 0 where
  pub each : length number ≡ length class
  pub within : (i : ℕ) → i < length class → slice_index number i < count
  pub same : (i j : ℕ) → i < length class → j < length class → (slice_index number i ≡ slice_index number j) ↔
      (slice_index class i ≡ slice_index class j)
  pub all : (k : ℕ) → k < count → (i : ℕ) × (i < length class) × (slice_index number i ≡ k)

-- the bases with the numbers of their nodes
pub record AreBasesOf (graph : Graph) (number : List ℕ) (bases : List (Base × ℕ)) : Type 0 where
  pub on : (b : Base) (n : ℕ) → base_of graph b ≡ Some n → lookup (base_eq b) bases ≡ Some (slice_index number n)
  pub back : (b : Base) (k : ℕ) → lookup (base_eq b) bases ≡ Some k →
      (n : ℕ) × (base_of graph b ≡ Some n) × (slice_index number n ≡ k)

-- the edges between the numbers of nodes
pub record AreEdgesOf (graph : Graph) (number : List ℕ) (edges : List ((ℕ × Label) × ℕ)) : Type 0 where
  pub on : (m : ℕ) (l : Label) (n : ℕ) → step_of graph m l ≡ Some n →
      lookup (letter_eq (slice_index number m, l)) edges ≡ Some (slice_index number n)
  pub back : (i : ℕ) (l : Label) (k : ℕ) → lookup (letter_eq (i, l)) edges ≡ Some k →
      (m : ℕ) × (n : ℕ) × (slice_index number m ≡ i) ×
      (step_of graph m l ≡ Some n) × (slice_index number n ≡ k)

-- the graph of the numbers of the nodes
pub record IsQuotient (graph : Graph) (number : List ℕ) (quotient : Graph) : Type 0 where
  pub bases : AreBasesOf graph number quotient.bases
  pub edges : AreEdgesOf graph number quotient.edges
