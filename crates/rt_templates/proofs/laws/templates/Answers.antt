use Rattle.rt_templates.proofs.Templates.{templates_law}
use Rattle.rt_templates.proofs.laws.templates.Goals as goal

pub returns : goal.returns
returns c = templates_law
