use Rattle.std.proofs.Common.{◌-◌, length, arith}
use Rattle.rt_cdecl.proofs.KindSets.{last_is}
use Rattle.rt_cdecl.proofs.listed.is_last.Goals as goal

pub returns-in_ok-yes-in-len1-up : goal.returns-in_ok-yes-in-len1-up
returns-in_ok-yes-in-len1-up c = last_is c.args.kinds.now (length c.args.kinds.now - 1) _ c.args.kind.now _ (omega (arith, c.in-len1-up.len_at_least)) c.last-item.is c.in_ok-yes-in-len1-up.ensures
