use Rattle.rt_texts.proofs.OneText.{one_line}
use Rattle.rt_texts.proofs.laws.one_line.Goals as goal

pub returns : goal.returns
returns c = one_line
