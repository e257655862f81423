use Rattle.rt_link.proofs.Pairs.{are_pair, pair_of}
use Rattle.rt_link.proofs.laws.pairs.Goals as goal

pub returns : goal.returns
returns c = λ first second f g. (are_pair first second f g, pair_of first second)
