use Rattle.std.proofs.Common.{take}
use Rattle.rt_reduce.specs.Inside.Deciding.{AreBelow}
use Rattle.rt_reduce.proofs.bounds.ups.Given as goal

abbrev pub invariant-loop-line : goal.invariant-loop-line
invariant-loop-line l = AreBelow l.order (take l.line-index l.lines) l.k l.found.items
