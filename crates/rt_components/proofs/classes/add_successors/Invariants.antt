use Rattle.std.proofs.Common.{take}
use Rattle.rt_components.specs.Inside.Classes.{AddsOthers}
use Rattle.rt_components.proofs.classes.add_successors.Given as goal

abbrev pub invariant-loop-node : goal.invariant-loop-node
invariant-loop-node l = AddsOthers l.classes.class.items l.class (take l.node-index l.nodes) l.fn.successors l.successors
