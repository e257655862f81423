use Rattle.std.proofs.Common.{◌≡◌, ℕ, ◌+◌, ◌<◌, List, [], ◌∷◌, ◌++◌, map, take, length, get_or, sym, ap, subst, ◌∙◌, arith}
use Rattle.std.proofs.Math.Seq.{take-length}
use Rattle.std.proofs.lemmas.List.{get_or_read, map_more}
use Rattle.rt_sketch.specs.Sketches.{HasMarksBelow}
use Rattle.rt_tree.specs.Trees.{Nodes}
use Rattle.rt_erase.specs.declared.extremes.Extremes.{Extremes}
use Rattle.rt_header.specs.Inside.Made.{AreErased, IsErased}
use Rattle.rt_header.proofs.Planting.{more_erased}
use Rattle.rt_header.proofs.forest.add_all.Goals as goal

abbrev none : ℕ × Nodes
none = (0, [])

-- the tree that is read is that of the sketch
read : (sketches items : List (ℕ × Nodes)) (k : ℕ) (item : ℕ × Nodes) (tree : Nodes) → items ≡ sketches → k < length items → item ≡ get_or items k item → tree ≡ item.1 → (k < length sketches) × (tree ≡ (get_or sketches k none).1)
read sketches items k item tree same less is e = (
  subst (λ (s : List (ℕ × Nodes)). k < length s) same less,
  e ∙ ap (λ (s : ℕ × Nodes). s.1) (get_or_read items k item less is none ∙ ap (λ (s : List (ℕ × Nodes)). get_or s k none) same),
)

pub add-requires : goal.add-requires
add-requires c =
    let sketches = c.args.sketches.now in
    let k = c.loop-number._number-index in
    let at : (k < length sketches) × (c.tree.result.now ≡ (get_or sketches k none).1) =
    read sketches c.items-number-items.result.now k c.loop-number-item.result c.tree.result.now c.items-number-items.ensures c.loop-number-test.true c.loop-number-item.is c.tree.ensures.tree in
    subst (λ (e : Extremes). HasMarksBelow e.count c.tree.result.now) (sym c.loop-number.invariant.extremes)
    (subst (HasMarksBelow c.args.erasure.now.extremes.count) (sym at.1) (c.requires k none at.0))

pub loop-number-preserved : goal.loop-number-preserved
loop-number-preserved c =
    let sketches = c.args.sketches.now in
    let k = c.loop-number._number-index in
    let old = c.loop-number.erasure in
    let new = c.add.new.erasure in
    let starts = c.loop-number.starts.items in
    let start = c.in_ok-add.field-0 in
    let tree_in : ℕ × Nodes → Nodes = λ s. s.1 in
    let at : (k < length sketches) × (c.tree.result.now ≡ (get_or sketches k none).1) =
    read sketches c.items-number-items.result.now k c.loop-number-item.result c.tree.result.now c.items-number-items.ensures c.loop-number-test.true c.loop-number-item.is c.tree.ensures.tree in
    record {
      extremes = c.in_ok-add.ensures.extremes ∙ c.loop-number.invariant.extremes;
      erased =
          subst (λ (ss : List ℕ). AreErased new ss (map tree_in (take (k + 1) sketches))) (sym c.in_ok-push.ensures.items)
          (subst (AreErased new (starts ++ start ∷ [])) (sym (map_more tree_in sketches k none at.0))
          (more_erased old new starts (map tree_in (take k sketches)) start (get_or sketches k none).1 c.in_ok-add.ensures.extremes c.in_ok-add.ensures.grown c.loop-number.invariant.erased
          (subst (IsErased new start) at.1 c.in_ok-add.ensures.erased)));
    }

pub returns-clause-erased : goal.returns-clause-erased
returns-clause-erased c =
    let sketches = c.args.sketches.now in
    let k = c.loop-number._number-index in
    let count = ap length c.items-number-items.ensures in
    let low = c.loop-number-test.false in
    let high = c.loop-number.auto._number-index-end in
    let end : k ≡ length sketches = omega arith in
    let whole : take k sketches ≡ sketches = ap (λ n. take n sketches) end ∙ take-length sketches in
    subst (λ (ss : List (ℕ × Nodes)). AreErased c.loop-number.erasure c.loop-number.starts.items (map (λ (s : ℕ × Nodes). s.1) ss)) whole c.loop-number.invariant.erased
