use Rattle.std.proofs.Common.{◌<◌, length}
use Rattle.rt_outline.specs.Frames.{HavePointers, IsFrame}
use Rattle.rt_outline.specs.Hubs.{IsGrownBy}
use Rattle.rt_outline.proofs.crossing.enter_hub.Given as goal

abbrev pub invariant-loop-member : goal.invariant-loop-member
invariant-loop-member l = record {
  frame : IsFrame l.frame.origins.items l.frame.steps l.frame.arcs.items l.frame.back.items;
  more : IsGrownBy l.fn.frame.origins.items l.fn.frame.arcs.items l.frame.origins.items l.frame.arcs.items;
  pointers : HavePointers l.frame.origins.items l.frame.arcs.items;
  hub : l.node < length l.frame.origins.items;
}
