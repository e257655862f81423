use Rattle.std.proofs.Common.{ℕ, ◌+◌, All, subst, sym}
use Rattle.std.proofs.lemmas.List.Elements.{All-push}
use Rattle.rt_lattice.specs.Lattices.{size_of}
use Rattle.rt_tree.specs.Trees.{Nodes}
use Rattle.rt_sketch.specs.Sketches.{HasMarksBelow}
use Rattle.rt_run.specs.Headers.{AreSketches, Numbered}
use Rattle.rt_run.proofs.Declaring.{sketches_next}
use Rattle.rt_run.proofs.analysis.Analysis.sketches.Goals as goal

pub loop-place-preserved : goal.loop-place-preserved
loop-place-preserved c =
    let analysis = c.args.self.now in
    let place = c.loop-place.place in
    let tree = c.in_ok-sketch.field-0 in
    let old = c.loop-place.sketches in
    let items = c.in_ok-push.ensures.ok in
    record {
      are = subst (AreSketches analysis.lattice.now analysis.schemes (place + 1)) (sym items)
          (sketches_next analysis place old tree c.loop-place.invariant.are c.in_ok-sketch.ensures.sketch);
      marks = subst (λ (s : Numbered). All (λ (e : ℕ × Nodes). HasMarksBelow (size_of analysis.lattice.now) e.1) s) (sym items)
          (All-push (λ (e : ℕ × Nodes). HasMarksBelow (size_of analysis.lattice.now) e.1) old (place, tree) c.loop-place.invariant.marks c.in_ok-sketch.ensures.marks);
    }
