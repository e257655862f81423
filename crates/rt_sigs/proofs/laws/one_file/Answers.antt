use Rattle.rt_sigs.proofs.OneFile.{one_file_lem}
use Rattle.rt_sigs.proofs.laws.one_file.Goals as goal

pub returns : goal.returns
returns c = one_file_lem
