use Rattle.std.proofs.Common.{arith}
use Rattle.rt_link.proofs.Checking.{checked-ok, goes_on}
use Rattle.rt_link.proofs.resolver.check_partners.Goals as goal

pub loop-index-preserved : goal.loop-index-preserved
loop-index-preserved c = goes_on _ _ c.loop-index.index _ c.loop-index.invariant (omega arith) (checked-ok _ _ c.in_ok-check_partner.ensures)
