use Rattle.rt_link.proofs.Linked.{link_about}
use Rattle.rt_link.proofs.laws.symbols.Goals as goal

pub returns : goal.returns
returns c = link_about
