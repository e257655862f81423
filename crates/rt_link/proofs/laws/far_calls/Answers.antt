use Rattle.rt_link.proofs.Linked.{link_far_call}
use Rattle.rt_link.proofs.laws.far_calls.Goals as goal

pub returns : goal.returns
returns c = link_far_call
