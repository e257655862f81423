use Rattle.std.proofs.Common.{◌≡◌, ℕ, ◌<◌, map, length, sym, ap, subst, ◌∙◌, arith}
use Rattle.rt_tree.specs.Trees.{Nodes}
use Rattle.rt_lattice.specs.Lattices.{size_of}
use Rattle.rt_erase.specs.declared.extremes.Extremes.{Extremes}
use Rattle.rt_erase.specs.Erasures.{AreExtremes}
use Rattle.rt_header.proofs.Planting.{are_forest}
use Rattle.rt_header.proofs.forest.Forest.of.Goals as goal

below : (extremes : Extremes) (count : ℕ) → extremes.count ≡ count → extremes.top < count → extremes.bottom < count → AreExtremes extremes
below extremes count same top bottom = record { top = omega arith; bottom = omega arith }

pub invariant_of-result : goal.invariant_of-result
invariant_of-result c =
    let erased = c.add_all.new.erasure in
    let extremes = c.extremes_of.result in
    let same : erased.extremes ≡ extremes = c.in_ok-starts.ensures.extremes ∙ c.in_ok-erasure.ensures in
    let are : AreExtremes extremes = below extremes (size_of c.args.lattice.now) c.extremes_of.ensures.count c.extremes_of.ensures.top.within c.extremes_of.ensures.bottom.within in
    let count : length c.names.result.now ≡ erased.extremes.count =
    ap length c.names.ensures.names ∙ (sym c.extremes_of.ensures.count ∙ sym (ap (λ (e : Extremes). e.count) same)) in
    are_forest c.names.result.now erased (map (λ (s : ℕ × Nodes). s.1) c.args.sketches.now) c.in_ok-starts.starts.items c.in_ok-classes.classes (subst AreExtremes (sym same) are)
    c.in_ok-classes.ensures.graph c.in_ok-classes.ensures.names count c.in_ok-classes.ensures.classes c.in_ok-starts.ensures.erased
