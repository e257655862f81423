use Rattle.std.proofs.Common.{◌∙◌}
use Rattle.rt_ways.proofs.Noding.{node_longer}
use Rattle.rt_ways.proofs.nodes.find.Goals as goal

pub returns-in-Longer : goal.returns-in-Longer
returns-in-Longer c =
    c.step.ensures
    ∙ node_longer c.args.shape.now c.args.named.now c.args.number c.args.number c.in-Longer.parent c.in-Longer.label c.args.nodes.now c.requires.nodes c.in-Longer.ensures.below c.in-Longer.ensures.made
