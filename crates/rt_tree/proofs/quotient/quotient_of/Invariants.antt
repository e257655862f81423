use Rattle.std.proofs.Common.{◌≡◌, ◌-◌, length}
use Rattle.rt_tree.specs.Inside.Quotients.{AreNumbers, IsQuotientOf}
use Rattle.rt_tree.proofs.quotient.quotient_of.Given as goal

abbrev pub invariant-loop-alloc : goal.invariant-loop-alloc
invariant-loop-alloc l = record {
  numbers : AreNumbers l.numbering.number.items l.numbering.order.items;
  each : length l.numbering.number.items ≡ length l.nodes;
  so_far : IsQuotientOf l.nodes l.class l.numbering.order.items l.least.items;
}

-- classes that have no node yet
abbrev pub decreases-loop-alloc : goal.decreases-loop-alloc
decreases-loop-alloc l = length l.nodes - length l.least.items
