use Rattle.rt_link.proofs.Linked.{link_word}
use Rattle.rt_link.proofs.laws.places.Goals as goal

pub returns : goal.returns
returns c = link_word
