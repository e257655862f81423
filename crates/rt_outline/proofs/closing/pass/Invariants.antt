use Rattle.std.proofs.Common.{◌≡◌, ℕ, ◌<◌, false}
use Rattle.rt_outline.specs.Frames.{IsFrame, IsPushedMore}
use Rattle.rt_outline.specs.Inside.Sweeps.{AreFollowed, IsDoneAt}
use Rattle.rt_outline.proofs.closing.pass.Given as goal

abbrev pub invariant-loop-node : goal.invariant-loop-node
invariant-loop-node l = record {
  frame : IsFrame l.frame.origins.items l.frame.steps l.frame.arcs.items l.frame.back.items;
  origins : l.frame.origins.items ≡ l.fn.frame.origins.items;
  steps : l.frame.steps ≡ l.fn.frame.steps;
  more : IsPushedMore l.fn.frame.origins.items l.stands l.fn.frame.arcs.items l.frame.arcs.items;
  followed : AreFollowed l.reached.items l.frame.arcs.items;
  done : l.added ≡ false → (l.frame.arcs.items ≡ l.fn.frame.arcs.items) × ((v : ℕ) → v < l.node → IsDoneAt l.fn.frame.origins.items l.fn.frame.steps l.fn.frame.arcs.items l.stands v);
}
