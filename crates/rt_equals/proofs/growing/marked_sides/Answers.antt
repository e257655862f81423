use Rattle.std.proofs.Common.{inl, inr}
use Rattle.rt_equals.proofs.growing.marked_sides.Goals as goal

pub loop-line-preserved : goal.loop-line-preserved
loop-line-preserved c = λ x h. (elim (c.in_ok-add_sides.ensures x h) [
  | inl old ↦ c.loop-line.invariant x old
  | inr own ↦ own
])
