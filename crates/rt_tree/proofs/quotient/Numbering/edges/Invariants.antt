use Rattle.std.proofs.Common.{◌≡◌, length, map, take}
use Rattle.rt_tree.specs.Trees.{Stand}
use Rattle.rt_tree.specs.Pairs.{ArePaired}
use Rattle.rt_tree.specs.Inside.Quotients.{AreNumbers, Extends, IsEndOf}
use Rattle.rt_tree.proofs.quotient.Numbering.edges.Given as goal

abbrev pub invariant-loop-label : goal.invariant-loop-label
invariant-loop-label l = record {
  numbers : AreNumbers l.self.number.items l.self.order.items;
  each : length l.self.number.items ≡ length l.fn.self.number.items;
  longer : Extends l.class l.fn.self.order.items l.self.order.items;
  image : ArePaired (IsEndOf l.self.order.items l.class) l.ends.items (take l.label-index l.edges);
  stand : Stand (length l.fn.self.order.items) (map (λ e. e.1) l.ends.items) (length l.self.order.items);
}
