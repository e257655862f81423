use Rattle.rt_chain.proofs.Counting.{chain_law}
use Rattle.rt_chain.proofs.laws.chain.Goals as goal

pub returns : goal.returns
returns c = chain_law
