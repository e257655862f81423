use Rattle.rt_table.proofs.Uniqueness.{one_list}
use Rattle.rt_table.proofs.laws.one_list.Goals as goal

pub returns : goal.returns
returns c = one_list
