use Rattle.std.proofs.Common.{take}
use Rattle.rt_outline.specs.Together.{IsFilled}
use Rattle.rt_outline.proofs.grouping.fill.Given as goal

abbrev pub invariant-loop-node : goal.invariant-loop-node
invariant-loop-node l = IsFilled (take l.node-index l.group) l.k l.fn.numbers.items l.numbers.items
