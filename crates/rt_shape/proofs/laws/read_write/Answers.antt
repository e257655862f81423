use Rattle.rt_shape.proofs.ReadWrite.{read_write_lem}
use Rattle.rt_shape.proofs.laws.read_write.Goals as goal

pub returns : goal.returns
returns c = read_write_lem
