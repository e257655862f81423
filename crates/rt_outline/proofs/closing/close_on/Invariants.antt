use Rattle.std.proofs.Common.{◌≡◌}
use Rattle.rt_outline.specs.Frames.{IsFrame, IsPushedMore}
use Rattle.rt_outline.specs.Inside.Sweeps.{AreFollowed}
use Rattle.rt_outline.proofs.closing.close_on.Given as goal

abbrev pub invariant-loop-round : goal.invariant-loop-round
invariant-loop-round l = record {
  frame : IsFrame l.frame.origins.items l.frame.steps l.frame.arcs.items l.frame.back.items;
  origins : l.frame.origins.items ≡ l.fn.frame.origins.items;
  more : IsPushedMore l.fn.frame.origins.items l.stands l.fn.frame.arcs.items l.frame.arcs.items;
  followed : AreFollowed l.reached.items l.frame.arcs.items;
}
