-- Rows of numbers: those of two nodes are equal exactly if the nodes are twins.
use Rattle.std.proofs.Common.{◌≡◌, ℕ, ◌<◌, ℤ, pos, negsuc, w32, List, [], ◌∷◌, length, refl, ap, arith}
use Rattle.std.specs.Prelude.{slice_index}
use Rattle.std.specs.List.{AllByRecursion}
use Rattle.std.specs.Int.RustNames.{FitsSigned}
use Rattle.rt_lines.specs.declared.label.Label.{Label}
use Rattle.rt_tree.specs.Kinds.{rank_of, number_of}
use Rattle.rt_tree.specs.Trees.{Nodes, node_at, IsEdge}
use Rattle.rt_tree.specs.Pairs.{ArePaired, InOneClass}
use Rattle.rt_tree.specs.Partitions.{AreTwins, slot_of, edges_row, row_at}
use Rattle.rt_tree.proofs.Comparing.{number_fits, label_by_parts}
use Rattle.rt_tree.proofs.Words.{AreNodes}
use Rattle.rt_tree.proofs.Alike.{edges_of}

one_slot : (j k : ℤ) → FitsSigned w32 j → FitsSigned w32 k → slot_of j ≡ slot_of k → j ≡ k
one_slot (pos m) (pos n) h g e = let same : m ≡ n = omega arith in ap pos same
one_slot (pos m) (negsuc n) h g e = absurd (omega arith)
one_slot (negsuc m) (pos n) h g e = absurd (omega arith)
one_slot (negsuc m) (negsuc n) h g e = let same : m ≡ n = omega arith in ap negsuc same

edges_alike : (class : List ℕ) (count : ℕ) (xs ys : List (Label × ℕ)) → AllByRecursion (IsEdge count) xs → AllByRecursion (IsEdge count) ys → edges_row class xs ≡ edges_row class ys → ArePaired (InOneClass class) xs ys
edges_alike class count [] [] good good' e = tt
edges_alike class count [] (y ∷ ys) good good' e = cc
edges_alike class count (x ∷ xs) [] good good' e = cc
edges_alike class count (x ∷ xs) (y ∷ ys) good good' e =
    let ranks : rank_of x.0 ≡ rank_of y.0 = cc in
    let slots : slot_of (number_of x.0) ≡ slot_of (number_of y.0) = cc in
    let ends : slice_index class x.1 ≡ slice_index class y.1 = cc in
    let rest : edges_row class xs ≡ edges_row class ys = cc in
    (label_by_parts x.0 y.0 good.0.0 good'.0.0 ranks (one_slot (number_of x.0) (number_of y.0) (number_fits x.0 good.0.0) (number_fits y.0 good'.0.0) slots), ends, edges_alike class count xs ys good.1 good'.1 rest)

edges_same : (class : List ℕ) (xs ys : List (Label × ℕ)) → ArePaired (InOneClass class) xs ys → edges_row class xs ≡ edges_row class ys
edges_same class [] [] h = refl
edges_same class [] (y ∷ ys) h = absurd h
edges_same class (x ∷ xs) [] h = absurd h
edges_same class (x ∷ xs) (y ∷ ys) h =
    let labels : x.0 ≡ y.0 = h.0 in
    let ends : slice_index class x.1 ≡ slice_index class y.1 = h.1 in
    let rest : edges_row class xs ≡ edges_row class ys = edges_same class xs ys h.2 in
    rw (labels, ends, rest) refl

pub row_twins : (t : Nodes) → AreNodes t → (class : List ℕ) (x y : ℕ) → x < length t → y < length t → row_at class t x ≡ row_at class t y → AreTwins class t x y
row_twins t good class x y less less' e =
    let low : (node_at t x).low ≡ (node_at t y).low = cc in
    let up : (node_at t x).up ≡ (node_at t y).up = cc in
    let own : slice_index class x ≡ slice_index class y = cc in
    let rest : edges_row class (node_at t x).edges ≡ edges_row class (node_at t y).edges = cc in
    record {
      one = own;
      alike = record {
        marks = rw (low, up) refl;
        edges = edges_alike class (length t) (node_at t x).edges (node_at t y).edges (edges_of t good x less).each (edges_of t good y less').each rest;
      };
    }

pub twin_rows : (t : Nodes) (class : List ℕ) (x y : ℕ) → AreTwins class t x y → row_at class t x ≡ row_at class t y
twin_rows t class x y twins =
    let low : (node_at t x).low ≡ (node_at t y).low = ap (λ (p : ℕ × ℕ). p.0) twins.alike.marks in
    let up : (node_at t x).up ≡ (node_at t y).up = ap (λ (p : ℕ × ℕ). p.1) twins.alike.marks in
    let own : slice_index class x ≡ slice_index class y = twins.one in
    let rest : edges_row class (node_at t x).edges ≡ edges_row class (node_at t y).edges = edges_same class (node_at t x).edges (node_at t y).edges twins.alike.edges in
    rw (low, up, own, rest) refl
