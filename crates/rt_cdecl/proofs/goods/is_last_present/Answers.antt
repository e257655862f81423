use Rattle.std.proofs.Common.{◌-◌, length, arith}
use Rattle.rt_cdecl.proofs.ArgTexts.{last_is}
use Rattle.rt_cdecl.proofs.goods.is_last_present.Goals as goal

pub returns-in-len1-up : goal.returns-in-len1-up
returns-in-len1-up c =
    last_is c.args.args.now (length c.args.args.now - 1) c.index-args-args.result c.is_present.result (omega (arith, c.in-len1-up.len_at_least)) c.is_present.ensures
