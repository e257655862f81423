use Rattle.rt_header.proofs.Whole.{one_header_of}
use Rattle.rt_header.proofs.laws.one_header_of.Goals as goal

pub returns : goal.returns
returns c = one_header_of
