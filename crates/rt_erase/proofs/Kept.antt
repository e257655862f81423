-- The fields that are kept.
use Rattle.std.proofs.Common.{◌≡◌, ℕ, zero, suc, pos, negsuc, ◌+◌, ◌/◌, ◌<◌, ◌≤◌, ◌^◌, ◌==◌, ◌&&◌, ◌⊎◌, inl, inr, nat_le, Bool, true, false, cond, Option, Some, None, IfSome, List, [], ◌∷◌, All, length, get_or, take, refl, sym, ap, subst, ◌∙◌, arith}
use Rattle.std.specs.List.{AllByRecursion, flat_map}
use Rattle.std.specs.Prelude.{FitsSigned}
use Rattle.std.specs.Int.{w32}
use Rattle.std.specs.Map.{lookup}
use Rattle.std.specs.Option.{option_or}
use Rattle.std.proofs.lemmas.Int.{ints}
use Rattle.std.proofs.lemmas.Bool.{leb-true, eqb-true, and_parts}
use Rattle.std.proofs.lemmas.List.Elements.{All-from_recursion, All-get_or, All-head, All-tail}
use Rattle.rt_lines.specs.Equality.{label_eq}
use Rattle.rt_lines.specs.declared.label.Label.{Label}
use Rattle.rt_lines.specs.declared.label.Label.TheVariants.{In, Out, Load, Store, Field}
use Rattle.rt_tree.specs.Trees.{Nodes, leaf, node_at, step_of, AreEdges, IsEdge, IsNode, IsTree}
use Rattle.rt_tree.proofs.Edges.{found_has}
use Rattle.rt_erase.specs.declared.row.Row.{Row}
use Rattle.rt_erase.specs.Rows.{AreApart, IsRow, fields_of, first_some, kept_from, pointee_of, row_at, row_of, sorted_with}
use Rattle.rt_erase.proofs.Edging.{at_node}
use Rattle.rt_erase.proofs.Entering.{each_sorted}

-- what is true of each row is true of each that is kept
each_kept : (P : Row → Type 0) (end : ℕ) (rows : List Row) → AllByRecursion P rows → AllByRecursion P (kept_from end rows)
each_kept P end [] all = tt
each_kept P end (row ∷ rows) all = by (nat_le end row.offset) (each_kept P (row.offset + row.bits / 8) rows all.1) (each_kept P end rows all.1)
  where
    by : (b : Bool) → AllByRecursion P (kept_from (row.offset + row.bits / 8) rows) → AllByRecursion P (kept_from end rows) →
        AllByRecursion P (cond b (row ∷ kept_from (row.offset + row.bits / 8) rows) (kept_from end rows))
    by true kept rest = (all.0, kept)
    by false kept rest = rest

-- those that are kept don't overlap
pub kept_apart : (end : ℕ) (rows : List Row) → AreApart end (kept_from end rows)
kept_apart end [] = tt
kept_apart end (row ∷ rows) = by (nat_le end row.offset) refl (kept_apart (row.offset + row.bits / 8) rows) (kept_apart end rows)
  where
    by : (b : Bool) → nat_le end row.offset ≡ b → AreApart (row.offset + row.bits / 8) (kept_from (row.offset + row.bits / 8) rows) → AreApart end (kept_from end rows) →
        AreApart end (cond b (row ∷ kept_from (row.offset + row.bits / 8) rows) (kept_from end rows))
    by true e kept rest = (leb-true end row.offset e, kept)
    by false e kept rest = rest

small : (k : ℕ) → FitsSigned w32 (pos k) → k < 2 ^ 31
small k fits = omega (arith, ints)

-- the fields of edges have widths and offsets of labels, and lead to nodes
edges_rows : (count : ℕ) (edges : List (Label × ℕ)) → AllByRecursion (IsEdge count) edges → AllByRecursion (IsRow count) (flat_map row_of edges)
edges_rows count [] all = tt
edges_rows count ((Field bits (pos k), m) ∷ edges) all = (record { width = all.0.0.0; offset = small k all.0.0.1; node = all.0.1 }, edges_rows count edges all.1)
edges_rows count ((Field bits (negsuc k), m) ∷ edges) all = edges_rows count edges all.1
edges_rows count ((In l, m) ∷ edges) all = edges_rows count edges all.1
edges_rows count ((Out n, m) ∷ edges) all = edges_rows count edges all.1
edges_rows count ((Load, m) ∷ edges) all = edges_rows count edges all.1
edges_rows count ((Store, m) ∷ edges) all = edges_rows count edges all.1

pub tree_edges : (tree : Nodes) (n : ℕ) → IsTree tree → n < length tree → AreEdges (length tree) (node_at tree n).edges
tree_edges tree n is less = All-get_or (IsNode (length tree)) tree n (leaf 0 0) less is.nodes

pub fields_rows : (tree : Nodes) (n : ℕ) → IsTree tree → n < length tree → All (IsRow (length tree)) (fields_of (node_at tree n))
fields_rows tree n is less =
    let edges = (node_at tree n).edges in
    let rows = flat_map row_of edges in
    All-from_recursion (IsRow (length tree)) (fields_of (node_at tree n))
    (each_kept (IsRow (length tree)) 0 (sorted_with [] rows) (each_sorted (IsRow (length tree)) [] rows tt (edges_rows (length tree) edges (tree_edges tree n is less).each)))

or_first : (a b : Option ℕ) → option_or a b ≡ first_some a b
or_first None b = refl
or_first (Some n) b = refl

-- what a load or a store leads to, by the edges
pub pointee_by : (tree : Nodes) (n : ℕ) (edges : List (Label × ℕ)) (load store : Option ℕ) → edges ≡ (node_at tree n).edges → load ≡ lookup (label_eq Load) edges →
    store ≡ lookup (label_eq Store) edges → option_or load store ≡ pointee_of tree n
pointee_by tree n edges load store are first second = or_first load store ∙ (λ i. first_some (one Load load first i) (one Store store second i))
  where
    one : (l : Label) (o : Option ℕ) → o ≡ lookup (label_eq l) edges → o ≡ step_of tree n l
    one l o e = e ∙ (ap (lookup (label_eq l)) are ∙ sym (at_node tree n l))

-- what a load or a store leads to is a node
pub pointee_within : (tree : Nodes) (n : ℕ) → IsTree tree → n < length tree → IfSome (pointee_of tree n) (λ m. m < length tree)
pointee_within tree n is less = by (step_of tree n Load) refl (step_of tree n Store) refl
  where
    inside : (l : Label) (m : ℕ) → step_of tree n l ≡ Some m → m < length tree
    inside l m e = (found_has (IsEdge (length tree)) l m (node_at tree n).edges (tree_edges tree n is less).each (sym (at_node tree n l) ∙ e)).1

    by : (o : Option ℕ) → step_of tree n Load ≡ o → (p : Option ℕ) → step_of tree n Store ≡ p → IfSome (first_some o p) (λ m. m < length tree)
    by None e None f = tt
    by None e (Some m) f = inside Store m f
    by (Some m) e p f = inside Load m e

-- a field has a width
wide : (count : ℕ) (row : Row) → IsRow count row → 0 < row.bits / 8
wide count row is = by is.width
  where
    by : (row.bits ≡ 8) ⊎ ((row.bits ≡ 16) ⊎ (row.bits ≡ 32)) → 0 < row.bits / 8
    by (inl e) = subst (λ bits. 0 < bits / 8) (sym e) (omega arith)
    by (inr (inl e)) = subst (λ bits. 0 < bits / 8) (sym e) (omega arith)
    by (inr (inr e)) = subst (λ bits. 0 < bits / 8) (sym e) (omega arith)

-- fields that are apart begin at the end that is given, or later
begins : (end : ℕ) (rows : List Row) (k : ℕ) (d : Row) → AreApart end rows → k < length rows → end ≤ (get_or rows k d).offset
begins end [] k d apart less = absurd (omega arith)
begins end (row ∷ rows) zero d apart less = apart.0
begins end (row ∷ rows) (suc k) d apart less =
    let rest = begins (row.offset + row.bits / 8) rows k d apart.1 (omega arith) in
    let first = apart.0 in
    omega arith

-- none before a field has its width and its offset
pub first_there : (count end : ℕ) (rows : List Row) (k : ℕ) (d : Row) → AreApart end rows → All (IsRow count) rows → k < length rows →
    row_at (take k rows) (get_or rows k d).bits (get_or rows k d).offset ≡ None
first_there count end rows k d apart each less = by end rows k apart each less
  where
    skipped : (b : Bool) (row : Row) (o : Option Row) → (b ≡ true → ⊥) → o ≡ None → cond b (Some row) o ≡ None
    skipped true row o not e = absurd (not refl)
    skipped false row o not e = e

    by : (end : ℕ) (rows : List Row) (k : ℕ) → AreApart end rows → All (IsRow count) rows → k < length rows → row_at (take k rows) (get_or rows k d).bits (get_or rows k d).offset ≡ None
    by end [] k apart each less = absurd (omega arith)
    by end (row ∷ rows) zero apart each less = refl
    by end (row ∷ rows) (suc k) apart each less =
        let found = get_or rows k d in
        let later : row.offset + row.bits / 8 ≤ found.offset = begins (row.offset + row.bits / 8) rows k d apart.1 (omega arith) in
        let some : 0 < row.bits / 8 = wide count row (All-head (IsRow count) row rows each) in
        skipped (row.offset == found.offset && row.bits == found.bits) row (row_at (take k rows) found.bits found.offset)
        (λ both. let same : row.offset ≡ found.offset = eqb-true row.offset found.offset (and_parts (row.offset == found.offset) (row.bits == found.bits) both).0 in omega arith)
        (by (row.offset + row.bits / 8) rows k apart.1 (All-tail (IsRow count) row rows each) (omega arith))
