use Rattle.std.proofs.Common.{◌≡◌, length}
use Rattle.rt_sure.specs.Inside.Shapes.{AreFewer}
use Rattle.rt_sure.proofs.shapes.without_others.Given as goal

abbrev pub invariant-loop-i : goal.invariant-loop-i
invariant-loop-i l = record {
  each : length l.given.items ≡ length l.stays;
  fewer : AreFewer l.given.items l.stays;
}
