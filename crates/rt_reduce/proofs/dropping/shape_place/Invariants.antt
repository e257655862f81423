use Rattle.std.proofs.Common.{◌≤◌, length}
use Rattle.rt_reduce.specs.Inside.Dropping.{AreShape}
use Rattle.rt_reduce.proofs.dropping.shape_place.Given as goal

abbrev pub invariant-loop-place : goal.invariant-loop-place
invariant-loop-place l = record {
  within : l.place ≤ length l.lines;
  shape : AreShape l.lines l.place;
}

abbrev pub decreases-loop-place : goal.decreases-loop-place
decreases-loop-place l = l.place
