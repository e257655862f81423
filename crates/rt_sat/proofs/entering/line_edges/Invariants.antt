use Rattle.std.proofs.Common.{take}
use Rattle.rt_sat.specs.Closings.{AreLineEdges}
use Rattle.rt_sat.proofs.entering.line_edges.Given as goal

abbrev pub invariant-loop-line : goal.invariant-loop-line
invariant-loop-line l = AreLineEdges (take l.line-index l.lines) l.named l.edges.items
