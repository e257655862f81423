use Rattle.std.proofs.Common.{take}
use Rattle.rt_ways.specs.Arcs.{AreMore}
use Rattle.rt_sketch.specs.Bounds.{IsLow}
use Rattle.rt_sketch.proofs.bounds.enter_lows.Given as goal

abbrev pub invariant-loop-line : goal.invariant-loop-line
invariant-loop-line l = AreMore (IsLow l.named (take l.line-index l.lines)) l.fn.rows.items l.rows.items
