use Rattle.rt_sat.proofs.Frames.{frame_law}
use Rattle.rt_sat.proofs.laws.frames.Goals as goal

pub returns : goal.returns
returns c = frame_law
