use Rattle.std.proofs.Common.{sym}
use Rattle.rt_ways.proofs.Hubs.{for_hub}
use Rattle.rt_ways.proofs.frame.Frame.hub_for.Goals as goal

pub returns-in-Some : goal.returns-in-Some
returns-in-Some c = for_hub c.args.self.now c.args.number c.in-Some.class c.hub.result c.requires.ready.distinct c.in-Some.ensures (sym c.hub.ensures)

pub returns-in-None : goal.returns-in-None
returns-in-None c = λ hub f. c.in-None.ensures f.0 f.1
