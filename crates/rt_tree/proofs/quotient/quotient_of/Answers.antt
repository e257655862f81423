use Rattle.std.proofs.Common.{◌≡◌, ℕ, ◌<◌, ◌^◌, List, map, length, get_or, sym, ap, subst, ◌∙◌, arith, rules}
use Rattle.std.specs.Prelude.{slice_index}
use Rattle.std.specs.List.{AllByRecursion}
use Rattle.std.proofs.lemmas.List.{get_or_read, get_or_default}
use Rattle.rt_lines.specs.declared.label.Label.{Label}
use Rattle.rt_tree.specs.Trees.{Node, Nodes, leaf, node_at, marks_of, IsEdge, Stand}
use Rattle.rt_tree.specs.Pairs.{ArePaired}
use Rattle.rt_tree.specs.Partitions.{AreClassesOf}
use Rattle.rt_tree.specs.Inside.Quotients.{IsEndOf, IsQuotientOf}
use Rattle.rt_tree.proofs.Alike.{edges_of}
use Rattle.rt_tree.proofs.Quotients.{class_within, order_within, quotient_more}
use Rattle.rt_tree.proofs.quotient.quotient_of.Goals as goal

-- the next class
read_order : (order : List ℕ) (least : Nodes) (k x : ℕ) → k ≡ length least → length least < length order → x ≡ get_or order k x → x ≡ slice_index order (length least)
read_order order least k x e less is = get_or_read order k x (omega arith) is 0 ∙ ap (λ i. get_or order i 0) e

in_nodes : (t : Nodes) (class order : List ℕ) (least : Nodes) (k x : ℕ) → AreClassesOf t class → IsQuotientOf t class order least → k ≡ length least → length least < length order → x ≡ get_or order k x → x < length t
in_nodes t class order least k x are so_far e less is = subst (λ n. n < length t) (sym (read_order order least k x e less is)) (order_within t class order least are so_far (length least) less)

pub bounds-nodes-index : goal.bounds-nodes-index
bounds-nodes-index c =
    let less : length c.loop-alloc.least.items < length c.loop-alloc.numbering.order.items = search rules in
    let count : c.len-in-loop-alloc-2.result ≡ length c.loop-alloc.least.items = search rules in
    in_nodes c.args.nodes.now c.args.class.now c.loop-alloc.numbering.order.items c.loop-alloc.least.items c.len-in-loop-alloc-2.result c.index.result.now c.requires.class c.loop-alloc.invariant.so_far count less c.index.ensures

pub offset_bounds-nodes-index : goal.offset_bounds-nodes-index
offset_bounds-nodes-index c =
    let less : length c.loop-alloc.least.items < length c.loop-alloc.numbering.order.items = search rules in
    let count : c.len-in-loop-alloc-2.result ≡ length c.loop-alloc.least.items = search rules in
    let inside : c.index.result.now < length c.args.nodes.now = in_nodes c.args.nodes.now c.args.class.now c.loop-alloc.numbering.order.items c.loop-alloc.least.items c.len-in-loop-alloc-2.result c.index.result.now c.requires.class c.loop-alloc.invariant.so_far count less c.index.ensures in
    let few : length c.args.nodes.now < 2 ^ 32 = c.requires.nodes.numbered in
    omega arith

pub edges-requires-in-loop-alloc-clause-ends : goal.edges-requires-in-loop-alloc-clause-ends
edges-requires-in-loop-alloc-clause-ends c =
    let nodes = c.args.nodes.now in
    let i = c.index.result.now in
    let less : length c.loop-alloc.least.items < length c.loop-alloc.numbering.order.items = search rules in
    let count : c.len-in-loop-alloc-2.result ≡ length c.loop-alloc.least.items = search rules in
    let inside : i < length nodes = in_nodes nodes c.args.class.now c.loop-alloc.numbering.order.items c.loop-alloc.least.items c.len-in-loop-alloc-2.result i c.requires.class c.loop-alloc.invariant.so_far count less c.index.ensures in
    let node : c.index-nodes-index.result ≡ node_at nodes i = get_or_read nodes i c.index-nodes-index.result inside c.index-nodes-index.is (leaf 0 0) in
    subst (λ n. AllByRecursion (IsEdge n) c.edges.result.now) (sym c.requires.class.each)
    (subst (AllByRecursion (IsEdge (length nodes))) (sym (c.edges.ensures ∙ ap (λ (n : Node). n.edges) node)) (edges_of nodes c.requires.nodes.nodes i inside).each)

pub edges-requires-in-loop-alloc-clause-class : goal.edges-requires-in-loop-alloc-clause-class
edges-requires-in-loop-alloc-clause-class c = λ k d less.
    let class = c.args.class.now in
    let inside : k < length c.args.nodes.now = subst (λ n. k < n) c.requires.class.each less in
    let within = class_within c.args.nodes.now class c.requires.class k inside in
    let each = c.loop-alloc.invariant.each in
    let is = get_or_default class k d 0 less in
    omega arith

pub loop-alloc-preserved : goal.loop-alloc-preserved
loop-alloc-preserved c =
    let nodes = c.args.nodes.now in
    let class = c.args.class.now in
    let order = c.loop-alloc.numbering.order.items in
    let new = c.edges-in-loop-alloc.new.self.order.items in
    let least = c.loop-alloc.least.items in
    let i = c.index.result.now in
    let less : length least < length order = search rules in
    let count : c.len-in-loop-alloc-2.result ≡ length least = search rules in
    let at : i ≡ slice_index order (length least) = read_order order least c.len-in-loop-alloc-2.result i count less c.index.ensures in
    let inside : i < length nodes = in_nodes nodes class order least c.len-in-loop-alloc-2.result i c.requires.class c.loop-alloc.invariant.so_far count less c.index.ensures in
    let node : c.index-nodes-index.result ≡ node_at nodes (slice_index order (length least)) =
    get_or_read nodes i c.index-nodes-index.result inside c.index-nodes-index.is (leaf 0 0) ∙ ap (node_at nodes) at in
    let each : length c.edges-in-loop-alloc.new.self.number.items ≡ length nodes = c.in_ok-edges.ensures.each ∙ c.loop-alloc.invariant.each in
    let marks : marks_of c.of.result ≡ marks_of (node_at nodes (slice_index order (length least))) = c.of.ensures.marks ∙ (c.mark.ensures ∙ ap marks_of node) in
    let edges : ArePaired (IsEndOf new class) c.of.result.edges (node_at nodes (slice_index order (length least))).edges =
    subst (ArePaired (IsEndOf new class) c.of.result.edges) (c.edges.ensures ∙ ap (λ (n : Node). n.edges) node)
    (subst (λ (es : List (Label × ℕ)). ArePaired (IsEndOf new class) es c.edges.result.now) (sym c.of.ensures.edges) c.in_ok-edges.ensures.image) in
    let stand : Stand (length order) (map (λ (e : Label × ℕ). e.1) c.of.result.edges) (length new) =
    subst (λ (es : List (Label × ℕ)). Stand (length order) (map (λ (e : Label × ℕ). e.1) es) (length new)) (sym c.of.ensures.edges) c.in_ok-edges.ensures.stand in
    record {
      numbers = c.in_ok-edges.ensures.numbers;
      each = each;
      so_far =
          subst (IsQuotientOf nodes class new) (sym c.in_ok-push.ensures.items)
          (quotient_more nodes class order new c.edges-in-loop-alloc.new.self.number.items least c.of.result c.requires.class c.loop-alloc.invariant.so_far less c.in_ok-edges.ensures.longer c.in_ok-edges.ensures.numbers each (record { marks = marks; edges = edges }) stand);
    }
