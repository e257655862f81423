use Rattle.std.proofs.Common.{take}
use Rattle.rt_sat.specs.Tables.{AreLows}
use Rattle.rt_sat.proofs.judging.lows.Given as goal

abbrev pub invariant-loop-line : goal.invariant-loop-line
invariant-loop-line l = AreLows l.order (take l.line-index l.lines) l.named l.k l.numbers.items
