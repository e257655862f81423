use Rattle.std.proofs.Common.{◌⊎◌, ℕ, None, Contains}
use Rattle.rt_outline.proofs.seeking.pursue.Given as goal

abbrev pub invariant-loop-arc : goal.invariant-loop-arc
invariant-loop-arc l = (w : ℕ) → Contains l.known.numbers w → Contains l.fn.known.numbers w ⊎ Contains l.arc-items (record { to = w; line = None })
