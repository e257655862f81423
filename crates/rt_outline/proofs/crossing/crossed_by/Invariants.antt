use Rattle.rt_outline.specs.Built.{IsLaid}
use Rattle.rt_outline.specs.Frames.{IsClosed, IsFrame}
use Rattle.rt_outline.specs.Inside.Sweeps.{AreFollowed}
use Rattle.rt_outline.proofs.crossing.crossed_by.Given as goal

abbrev pub invariant-loop : goal.invariant-loop
invariant-loop l = record {
  frame : IsFrame l.frame.origins.items l.frame.steps l.frame.arcs.items l.frame.back.items;
  laid : IsLaid l.lines l.named l.sorts.flips.items l.frame.origins.items l.frame.arcs.items;
  followed : AreFollowed l.reached.items l.frame.arcs.items;
}

abbrev pub invariant-loop-2 : goal.invariant-loop-2
invariant-loop-2 l = record {
  frame : IsFrame l.frame.origins.items l.frame.steps l.frame.arcs.items l.frame.back.items;
  laid : IsLaid l.lines l.named l.sorts.flips.items l.frame.origins.items l.frame.arcs.items;
  closed : IsClosed l.frame.origins.items l.frame.arcs.items l.stands;
  followed : AreFollowed l.reached.items l.frame.arcs.items;
}
