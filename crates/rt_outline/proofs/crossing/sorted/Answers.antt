use Rattle.rt_outline.proofs.Inner.{distinct}
use Rattle.rt_outline.proofs.crossing.sorted.Goals as goal

pub sorts_of-requires : goal.sorts_of-requires
sorts_of-requires c = distinct c.args.lines.now c.requires.0 c.args.named.now c.requires.1
