use Rattle.std.proofs.Common.{◌∙◌}
use Rattle.rt_proc.proofs.Ended.{searched-has}
use Rattle.rt_proc.proofs.ends.has.Goals as goal

pub returns : goal.returns
returns c = c.is_ok.ensures.value ∙ searched-has c.args.ends.now c.args.symbol c.binary_search.result c.requires c.binary_search.ensures.position
