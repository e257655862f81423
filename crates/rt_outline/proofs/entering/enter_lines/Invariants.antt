use Rattle.std.proofs.Common.{◌≡◌}
use Rattle.rt_outline.specs.Frames.{AreKept, ArePushedKept, IsFrame}
use Rattle.rt_outline.specs.Lines.{AreLineArcs}
use Rattle.rt_outline.proofs.entering.enter_lines.Given as goal

abbrev pub invariant-loop-i : goal.invariant-loop-i
invariant-loop-i l = record {
  frame : IsFrame l.frame.origins.items l.frame.steps l.frame.arcs.items l.frame.back.items;
  origins : l.frame.origins.items ≡ l.fn.frame.origins.items;
  arcs : AreLineArcs l.lines l.i l.named l.frame.arcs.items;
  kept : AreKept l.fn.frame.arcs.items l.frame.arcs.items;
  pushed : ArePushedKept l.fn.frame.arcs.items l.frame.arcs.items;
}
