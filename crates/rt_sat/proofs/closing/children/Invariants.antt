use Rattle.rt_sat.proofs.Children.{AreChildrenTo}
use Rattle.rt_sat.proofs.closing.children.Given as goal

abbrev pub invariant-loop-number : goal.invariant-loop-number
invariant-loop-number l = AreChildrenTo l.named l.number l.children.items
