use Rattle.std.proofs.Common.{ℕ, All}
use Rattle.rt_lattice.specs.Lattices.{size_of}
use Rattle.rt_tree.specs.Trees.{Nodes}
use Rattle.rt_sketch.specs.Sketches.{HasMarksBelow}
use Rattle.rt_run.specs.Headers.{AreSketches}
use Rattle.rt_run.proofs.analysis.Analysis.sketches.Given as goal

abbrev pub invariant-loop-place : goal.invariant-loop-place
invariant-loop-place l = record {
  are : AreSketches l.self.lattice.now l.self.schemes l.place l.sketches;
  marks : All (λ (s : ℕ × Nodes). HasMarksBelow (size_of l.self.lattice.now) s.1) l.sketches;
}
