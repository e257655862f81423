use Rattle.std.proofs.Common.{length}
use Rattle.rt_grid.proofs.Writing.{read_within}
use Rattle.rt_grid.proofs.pruning.is_spare.Goals as goal

pub is_around-requires-clause-other : goal.is_around-requires-clause-other
is_around-requires-clause-other c = read_within (length c.args.rows.now) c.args.kept.now c.loop-other.other-index c.requires.kept c.loop-other-test.true
