use Rattle.rt_header.proofs.Planting.{class_read}
use Rattle.rt_header.proofs.forest.Forest.class.Goals as goal

pub returns-clause-within : goal.returns-clause-within
returns-clause-within c =
    class_read _ c.args.self.now c.self.view_is c.self.invariant c.args.i c.args.node c.index.result.now c.class.result c.requires c.index.ensures c.class.ensures
