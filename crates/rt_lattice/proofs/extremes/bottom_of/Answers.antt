use Rattle.std.proofs.Common.{below_more, arith}
use Rattle.rt_lattice.proofs.extremes.bottom_of.Goals as goal

pub loop-bottom-preserved : goal.loop-bottom-preserved
loop-bottom-preserved c = below_more _ _ c.loop-bottom.invariant (λ h. let t = c.is_bottom.ensures.1 h in cc)

pub returns : goal.returns
returns c = λ (b, h). c.loop-bottom.invariant b (omega (arith, h.within)) h
