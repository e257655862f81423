use Rattle.std.proofs.Common.{arith}
use Rattle.rt_ways.proofs.Hubs.{bare_none, pointed_by}
use Rattle.rt_ways.proofs.frame.Frame.pointed.Goals as goal

pub returns-in-Bare : goal.returns-in-Bare
returns-in-Bare c = bare_none c.args.self.now c.args.number _ c.in-Bare.ensures.made

pub class_behind-requires-clause-nodes : goal.class_behind-requires-clause-nodes
class_behind-requires-clause-nodes c = omega (arith, c.requires.ready.nodes, c.requires.number, c.in-Longer.ensures.below)

pub class_behind-requires-clause-classes : goal.class_behind-requires-clause-classes
class_behind-requires-clause-classes c = omega (arith, c.requires.ready.classes, c.requires.number, c.in-Longer.ensures.below)

pub returns-in-Longer : goal.returns-in-Longer
returns-in-Longer c =
    pointed_by c.args.self.now c.args.number c.in-Longer.parent c.in-Longer.label c.class_behind.result c.requires.ready.distinct
    (record { within = c.requires.number; parent = omega (arith, c.requires.number, c.in-Longer.ensures.below); is = c.in-Longer.ensures.made }) c.class_behind.ensures
