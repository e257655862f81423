use Rattle.std.proofs.Common.{take}
use Rattle.rt_outline.specs.Lines.{AreNumbers}
use Rattle.rt_sure.proofs.ways.numbers.Given as goal

abbrev pub invariant-loop-x : goal.invariant-loop-x
invariant-loop-x l = AreNumbers l.named (take l.x-index l.variables) l.numbers.items
