use Rattle.std.proofs.Common.{◌≡◌, length}
use Rattle.rt_equals.specs.Comparing.{AreMarked}
use Rattle.rt_equals.proofs.agreeing.marked.Given as goal

abbrev pub invariant-loop-i : goal.invariant-loop-i
invariant-loop-i l = record {
  each : length l.marks.items ≡ l.outer.count;
  marked : AreMarked l.named l.outer.numbers.items l.i l.marks.items;
}
