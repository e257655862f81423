use Rattle.std.proofs.Common.{◌≡◌, drop}
use Rattle.rt_components.specs.Inside.Orders.{IsQueue}
use Rattle.rt_components.proofs.order.Queue.settle_all.Given as goal

abbrev pub invariant-loop-class : goal.invariant-loop-class
invariant-loop-class l = record {
  queue : IsQueue l.successors l.members l.self (drop l.class-index l.classes);
  come : l.self.come.items ≡ l.fn.self.come.items;
}
