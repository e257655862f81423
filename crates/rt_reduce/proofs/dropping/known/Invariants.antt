use Rattle.std.proofs.Common.{◌≡◌, ◌≤◌, length}
use Rattle.rt_reduce.specs.Inside.Dropping.{AreStaying}
use Rattle.rt_reduce.proofs.dropping.known.Given as goal

abbrev pub invariant-loop-i : goal.invariant-loop-i
invariant-loop-i l = record {
  from : l.first ≤ l.i;
  each : length l.known.items ≡ length l.lines;
  staying : AreStaying l.order l.lines l.known.items;
}
