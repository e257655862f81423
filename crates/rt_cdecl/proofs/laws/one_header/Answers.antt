use Rattle.rt_cdecl.proofs.OneDecls.{one_header_lem}
use Rattle.rt_cdecl.proofs.laws.one_header.Goals as goal

pub returns : goal.returns
returns c = one_header_lem
