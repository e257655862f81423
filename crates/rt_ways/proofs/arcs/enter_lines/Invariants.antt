use Rattle.std.proofs.Common.{take}
use Rattle.rt_ways.specs.Arcs.{AreMore}
use Rattle.rt_ways.specs.Inside.Frames.{IsOfLine}
use Rattle.rt_ways.proofs.arcs.enter_lines.Given as goal

abbrev pub invariant-loop-line : goal.invariant-loop-line
invariant-loop-line l = AreMore (IsOfLine l.named (take l.line-index l.lines)) l.fn.arcs.items l.arcs.items
