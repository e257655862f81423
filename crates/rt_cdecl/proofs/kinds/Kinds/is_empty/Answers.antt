use Rattle.rt_cdecl.proofs.Left.{zero_empty}
use Rattle.rt_cdecl.proofs.kinds.Kinds.is_empty.Goals as goal

pub returns : goal.returns
returns c = zero_empty c.args.self.now c.counts-counts.result c.is_zero.result c.counts-counts.ensures c.is_zero.ensures
