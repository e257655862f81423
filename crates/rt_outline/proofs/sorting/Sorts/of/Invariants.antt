use Rattle.std.proofs.Common.{◌≡◌}
use Rattle.rt_outline.proofs.sorting.Sorts.of.Given as goal

abbrev pub invariant-loop : goal.invariant-loop
invariant-loop l = record {
  classes : l.sorts.classes.items ≡ l.fn.classes.items;
  flips : l.sorts.flips.items ≡ l.fn.flips.items;
}
