use Rattle.std.proofs.Common.{take}
use Rattle.rt_outline.specs.Inside.Bounds.{AreBoundsAt, IsAtOrAbove}
use Rattle.rt_outline.proofs.bounds.below.Given as goal

abbrev pub invariant-loop-bound : goal.invariant-loop-bound
invariant-loop-bound l = AreBoundsAt (IsAtOrAbove l.order l.k) l.stands (take l.bound-index l.bounds) l.numbers.items
