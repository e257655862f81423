use Rattle.std.proofs.Common.{below_more, refl}
use Rattle.rt_lattice.proofs.joins.is_least.Goals as goal
use Rattle.rt_lattice.proofs.joins.is_least.Goals.{else-is_upper-via-then-is_upper+else-not-le, else-is_upper-via-else-is_upper}

pub loop-c-preserved : goal.loop-c-preserved
loop-c-preserved c =
    below_more _ _ c.loop-c.invariant
    (λ f s.
    elim c.else-is_upper.branch [
      | else-is_upper-via-then-is_upper+else-not-le w ↦ w.if-not-le.ensures.0 refl
      | else-is_upper-via-else-is_upper w ↦ let t = c.is_upper.ensures.1 (f, s) in cc
    ])
