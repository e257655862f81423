use Rattle.std.proofs.Common.{◌≡◌}
use Rattle.rt_outline.proofs.sorting.Sorts.mark.Given as goal

abbrev pub invariant-loop-behind : goal.invariant-loop-behind
invariant-loop-behind l = record {
  classes : l.self.classes.items ≡ l.fn.self.classes.items;
  flips : l.self.flips.items ≡ l.fn.self.flips.items;
}
