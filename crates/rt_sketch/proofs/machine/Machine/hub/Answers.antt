use Rattle.std.proofs.Common.{◌∙◌, sym}
use Rattle.rt_sketch.proofs.Numbered.{hub_sized}
use Rattle.rt_sketch.proofs.machine.Machine.hub.Goals as goal

pub returns-in-Some-clause-sized : goal.returns-in-Some-clause-sized
returns-in-Some-clause-sized c = λ n e. hub_sized c.args.self.now.ways c.in-Some.class n c.hub_of.ensures.sized (sym c.hub_of.ensures.hub ∙ e)
