use Rattle.std.proofs.Common.{◌≡◌, ℕ, [], Contains}
use Rattle.rt_outline.specs.Frames.{AreKept, AreMore, IsFrame}
use Rattle.rt_outline.proofs.closing.enter.Given as goal

abbrev pub invariant-loop-target : goal.invariant-loop-target
invariant-loop-target l = record {
  frame : IsFrame l.frame.origins.items l.frame.steps l.frame.arcs.items l.frame.back.items;
  origins : l.frame.origins.items ≡ l.fn.frame.origins.items;
  steps : l.frame.steps ≡ l.fn.frame.steps;
  kept : AreKept l.fn.frame.arcs.items l.frame.arcs.items;
  more : AreMore (λ (v w : ℕ). (v ≡ l.node) × Contains l.fresh w) l.fn.frame.arcs.items l.frame.arcs.items;
  none : l.fresh ≡ [] → l.frame.arcs.items ≡ l.fn.frame.arcs.items;
}
