use Rattle.std.proofs.Common.{◌∙◌}
use Rattle.rt_sat.proofs.table.whole.Goals as goal

pub returns : goal.returns
returns c = c.in_ok-table.ensures.whole (c.deref.ensures.value ∙ c.new-marks.ensures.items)
