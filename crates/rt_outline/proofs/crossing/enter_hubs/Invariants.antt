use Rattle.rt_outline.specs.Frames.{HavePointers, IsFrame}
use Rattle.rt_outline.specs.Hubs.{IsGrownBy}
use Rattle.rt_outline.proofs.crossing.enter_hubs.Given as goal

abbrev pub invariant-loop-hub : goal.invariant-loop-hub
invariant-loop-hub l = record {
  frame : IsFrame l.frame.origins.items l.frame.steps l.frame.arcs.items l.frame.back.items;
  more : IsGrownBy l.fn.frame.origins.items l.fn.frame.arcs.items l.frame.origins.items l.frame.arcs.items;
  pointers : HavePointers l.frame.origins.items l.frame.arcs.items;
}
