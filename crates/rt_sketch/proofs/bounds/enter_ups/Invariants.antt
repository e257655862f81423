use Rattle.std.proofs.Common.{take}
use Rattle.rt_ways.specs.Arcs.{AreMore}
use Rattle.rt_sketch.specs.Bounds.{IsUp}
use Rattle.rt_sketch.proofs.bounds.enter_ups.Given as goal

abbrev pub invariant-loop-line : goal.invariant-loop-line
invariant-loop-line l = AreMore (IsUp l.named (take l.line-index l.lines)) l.fn.rows.items l.rows.items
