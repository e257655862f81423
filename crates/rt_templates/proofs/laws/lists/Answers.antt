use Rattle.rt_templates.proofs.Choosing.{lists_law}
use Rattle.rt_templates.proofs.laws.lists.Goals as goal

pub returns : goal.returns
returns c = lists_law
