use Rattle.rt_lattice.proofs.Joined.{least_of, below_uppers}
use Rattle.rt_lattice.proofs.joins.join_of.Goals as goal

pub returns-then-is_least : goal.returns-then-is_least
returns-then-is_least c = least_of _ _ _ _ _ c.low_upper-low.ensures.low (c.is_least.ensures.0 c.if-is_least.true)

pub returns-else-is_least : goal.returns-else-is_least
returns-else-is_least c = λ have. let t = c.is_least.ensures.1 (below_uppers _ _ _ _ _ c.low_upper-low.ensures.transitive c.low_upper-low.ensures.low have) in cc
