use Rattle.std.proofs.Common.{◌≡◌, true, length, replicate}
use Rattle.rt_lines.specs.Orders.{Below}
use Rattle.rt_reduce.specs.Inside.Dropping.{AreStaying}
use Rattle.rt_reduce.proofs.parting.with_parted.Given as goal

abbrev pub invariant-loop-i : goal.invariant-loop-i
invariant-loop-i l = record {
  flags : l.others.items ≡ replicate (length l.lines) true;
  each : length l.now.items ≡ l.i;
  staying : (order : Below) → AreStaying order l.lines l.stays → AreStaying order l.lines l.now.items;
}
