use Rattle.std.proofs.Common.{◌≡◌, ℕ, map, take}
use Rattle.rt_tree.specs.Trees.{Nodes}
use Rattle.rt_header.specs.Inside.Made.{AreErased}
use Rattle.rt_header.proofs.forest.add_all.Given as goal

abbrev pub invariant-loop-number : goal.invariant-loop-number
invariant-loop-number l = record {
  extremes : l.erasure.extremes ≡ l.fn.erasure.extremes;
  erased : AreErased l.erasure l.starts.items (map (λ (s : ℕ × Nodes). s.1) (take l._number-index l.sketches));
}
