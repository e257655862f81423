use Rattle.rt_flow.specs.Sources.{shared_count_of, shared_in}
use Rattle.rt_flow.proofs.reach.Reach.shared.Goals as goal

pub list-requires : goal.list-requires
unfolding shared_count_of
list-requires c = c.requires

pub returns : goal.returns
unfolding shared_in
returns c = c.list.ensures
