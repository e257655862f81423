-- The letters after the nodes of a graph.
use Rattle.std.specs.Prelude.{◌≡◌, ◌↔◌, ℕ, nat_eq, List, [], ◌∷◌, ◌++◌, cond, Contains, Some, IsSome, unwrap_or}
use Rattle.std.specs.Map.{lookup}
use Rattle.std.specs.BTreeMap.{BTreeMap, get}
use Rattle.std.specs.Ordering.{nat_cmp}
use Rattle.rt_lines.specs.declared.label.Label.{Label}
use Rattle.rt_lines.specs.declared.variable.Dtv.{Dtv}
use Rattle.rt_shape.specs.Graphs.{Graph, letter_eq, node_of, step_of}

-- the letters that are given for a node
abbrev pub letters_at : BTreeMap ℕ (List Label) → ℕ → List Label
letters_at letters n = unwrap_or (get nat_cmp letters n) []

-- the node is that of some variable
abbrev pub IsReached : Graph → ℕ → Type 0
IsReached graph n = (x : Dtv) × (node_of graph x ≡ Some n)

-- the letters that are given for a variable's node are those that lead on
abbrev pub AreLettersOf : Graph → BTreeMap ℕ (List Label) → Type 0
AreLettersOf graph letters = (n : ℕ) (l : Label) → IsReached graph n →
    Contains (letters_at letters n) l ↔ IsSome (step_of graph n l)

-- edges of the graph, from nodes of variables
abbrev pub AreEdges : Graph → List ((ℕ × Label) × ℕ) → Type 0
AreEdges graph edges =
    (n : ℕ) (l : Label) (m : ℕ) → lookup (letter_eq (n, l)) edges ≡ Some m → (step_of graph n l ≡ Some m) × IsReached graph n

-- the letters that are given are those of the edges
abbrev pub AreAfter : List ((ℕ × Label) × ℕ) → BTreeMap ℕ (List Label) → Type 0
AreAfter edges letters = (n : ℕ) (l : Label) → Contains (letters_at letters n) l ↔ IsSome (lookup (letter_eq (n, l)) edges)

-- edges are kept
abbrev pub AreKept : List ((ℕ × Label) × ℕ) → List ((ℕ × Label) × ℕ) → Type 0
AreKept old new = (n : ℕ) (l : Label) (m : ℕ) → lookup (letter_eq (n, l)) old ≡ Some m → lookup (letter_eq (n, l)) new ≡ Some m

-- the graph with these edges alone
abbrev pub with_edges : Graph → List ((ℕ × Label) × ℕ) → Graph
with_edges graph edges = record { count = graph.count; bases = graph.bases; edges = edges }

-- the letter is added to the node's letters
abbrev pub AddsLetter : ℕ → Label → BTreeMap ℕ (List Label) → BTreeMap ℕ (List Label) → Type 0
AddsLetter n l old new = (m : ℕ) → letters_at new m ≡ cond (nat_eq n m) (letters_at old m ++ l ∷ []) (letters_at old m)

-- the edge is put where it belongs
abbrev pub Enters : ℕ → Label → ℕ → List ((ℕ × Label) × ℕ) → List ((ℕ × Label) × ℕ) → Type 0
Enters n l m old new = (p : ℕ × Label) → lookup (letter_eq p) new ≡ cond (letter_eq (n, l) p) (Some m) (lookup (letter_eq p) old)
