use Rattle.std.proofs.Common.{arith}
use Rattle.rt_link.proofs.Pairs.{no_auipc}
use Rattle.rt_link.proofs.pair.auipc_register.Goals as goal

pub returns-in_default-2 : goal.returns-in_default-2
returns-in_default-2 c = no_auipc c.args.word (omega arith) c.decode.result c.in_default.is c.decode.ensures.only
