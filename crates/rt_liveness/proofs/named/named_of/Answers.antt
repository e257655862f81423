use Rattle.rt_liveness.proofs.Ending.{unnamed}
use Rattle.rt_liveness.proofs.named.named_of.Goals as goal

pub returns-in-None : goal.returns-in-None
returns-in-None c = unnamed c.args.sigs.now c.args.name.now c.in-None.ensures.first
