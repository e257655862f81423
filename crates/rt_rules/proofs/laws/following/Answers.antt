use Rattle.rt_rules.proofs.Putting.{following_lem}
use Rattle.rt_rules.proofs.laws.following.Goals as goal

pub returns : goal.returns
returns c = following_lem
