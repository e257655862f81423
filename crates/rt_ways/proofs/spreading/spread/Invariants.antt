use Rattle.std.proofs.Common.{◌-◌}
use Rattle.rt_ways.specs.Arcs.{IsInRow}
use Rattle.rt_ways.proofs.Following.{IsSpreading}
use Rattle.rt_ways.proofs.spreading.spread.Given as goal

abbrev pub invariant-loop-place : goal.invariant-loop-place
invariant-loop-place l = IsSpreading (IsInRow l.arcs) l.fn.found l.found l.place

abbrev pub decreases-loop-place : goal.decreases-loop-place
decreases-loop-place l = 18446744073709551616 - l.place
