use Rattle.std.proofs.Common.{below_more, arith}
use Rattle.rt_lattice.proofs.extremes.top_of.Goals as goal

pub loop-top-preserved : goal.loop-top-preserved
loop-top-preserved c = below_more _ _ c.loop-top.invariant (λ h. let t = c.is_top.ensures.1 h in cc)

pub returns : goal.returns
returns c = λ (t, h). c.loop-top.invariant t (omega (arith, h.within)) h
