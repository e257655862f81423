-- The edges of all nodes, and the first one with each label.
use Rattle.std.proofs.Common.{◌≡◌, ℕ, zero, suc, ◌+◌, ◌<◌, Option, Some, List, [], ◌∷◌, ◌++◌, map, length, get_or, drop, sym, ap, ◌∙◌, arith, append_assoc}
use Rattle.std.specs.Prelude.{slice_get, slice_index}
use Rattle.std.proofs.Math.Seq.{drop-cons}
use Rattle.std.proofs.lemmas.Option.{slice_get_within}
use Rattle.rt_lines.specs.declared.label.Label.TheVariants.{In}
use Rattle.rt_lines.specs.declared.label.Loc.TheVariants.{Arg}
use Rattle.rt_tree.specs.declared.links.Link.{Link}
use Rattle.rt_tree.specs.Inside.Splits.{AreFirstLabels, label_row, link_of, links_from, links_of}
use Rattle.rt_tree.specs.Trees.{Nodes, leaf, node_at}
use Rattle.rt_tree.proofs.Firsts.{AreFirsts}

-- the edges of the nodes from one on are its edges and those of the nodes behind it
pub links_next : (nodes : Nodes) (x : ℕ) → x < length nodes → (links : List Link) → links ++ links_from x (drop x nodes) ≡ links_of nodes →
    (links ++ map (link_of x) (node_at nodes x).edges) ++ links_from (x + 1) (drop (x + 1) nodes) ≡ links_of nodes
links_next nodes x less links was =
    append_assoc links (map (link_of x) (node_at nodes x).edges) (links_from (x + 1) (drop (x + 1) nodes))
    ∙ (ap (λ (rest : List Link). links ++ rest) (sym here) ∙ was)
  where
    next : (x : ℕ) → suc x ≡ x + 1
    next x = omega arith

    here : links_from x (drop x nodes) ≡ map (link_of x) (node_at nodes x).edges ++ links_from (x + 1) (drop (x + 1) nodes)
    here =
        ap (links_from x) (drop-cons nodes x (leaf 0 0) less)
        ∙ ap (λ n. map (link_of x) (node_at nodes x).edges ++ links_from n (drop n nodes)) (next x)

-- the row of an edge's label
abbrev pub label_row_at : List Link → ℕ → List ℕ
label_row_at links j = label_row (get_or links j (record { from = 0; label = In (Arg 0); to = 0 })).label

read_row : (links : List Link) (j : ℕ) (link : Link) → slice_get links j ≡ Some link → label_row_at links j ≡ label_row link.label
read_row [] j link e = cc
read_row (first ∷ links) zero link e = let same : first ≡ link = cc in ap (λ (l : Link). label_row l.label) same
read_row (first ∷ links) (suc j) link e = read_row links j link e

-- the first edges with the rows of all labels
pub firsts_labels : (links : List Link) (first : List ℕ) (F : List ℕ → Option ℕ) → AreFirsts F (label_row_at links) first (length links) → AreFirstLabels links first
firsts_labels links first F are = record {
  each = are.each;
  low = are.low;
  one = λ i j left right at at' same. one i j left right at at' same;
}
  where
    one : (i j : ℕ) (left right : Link) → slice_get links i ≡ Some left → slice_get links j ≡ Some right → left.label ≡ right.label → slice_index first i ≡ slice_index first j
    one i j left right at at' same =
        let rows : label_row_at links i ≡ label_row_at links j = read_row links i left at ∙ (ap label_row same ∙ sym (read_row links j right at')) in
        let both : ◌≡◌ {A = Option ℕ} (Some (slice_index first i)) (Some (slice_index first j)) =
        sym (are.told i (slice_get_within links i left at)) ∙ (ap F rows ∙ are.told j (slice_get_within links j right at')) in
        cc
