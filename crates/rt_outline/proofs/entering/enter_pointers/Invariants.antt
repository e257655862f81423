use Rattle.std.proofs.Common.{◌≡◌, ℕ, ◌<◌}
use Rattle.rt_outline.specs.Frames.{AreKept, AreMore, HavePointersAt, IsFrame, IsPointerPair}
use Rattle.rt_outline.proofs.entering.enter_pointers.Given as goal

abbrev pub invariant-loop-node : goal.invariant-loop-node
invariant-loop-node l = record {
  frame : IsFrame l.frame.origins.items l.frame.steps l.frame.arcs.items l.frame.back.items;
  origins : l.frame.origins.items ≡ l.fn.frame.origins.items;
  kept : AreKept l.fn.frame.arcs.items l.frame.arcs.items;
  pointers : (p : ℕ) → p < l.node → HavePointersAt l.frame.origins.items l.frame.arcs.items p;
  only : AreMore (IsPointerPair l.fn.frame.origins.items) l.fn.frame.arcs.items l.frame.arcs.items;
}
