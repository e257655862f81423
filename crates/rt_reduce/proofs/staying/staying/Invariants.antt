use Rattle.std.proofs.Common.{◌≡◌, true, length, replicate}
use Rattle.rt_reduce.specs.Inside.Dropping.{AreStaying}
use Rattle.rt_reduce.proofs.staying.staying.Given as goal

abbrev pub invariant-loop-i : goal.invariant-loop-i
invariant-loop-i l = record {
  flags : l.stands.items ≡ replicate (length l.lines) true;
  each : length l.stays.items ≡ l.i;
  staying : AreStaying l.order l.lines l.stays.items;
}
