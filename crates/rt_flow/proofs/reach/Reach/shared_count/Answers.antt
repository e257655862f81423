use Rattle.rt_flow.specs.Sources.{shared_count_of}
use Rattle.rt_flow.proofs.reach.Reach.shared_count.Goals as goal

pub returns : goal.returns
unfolding shared_count_of
returns c = c.len.ensures
