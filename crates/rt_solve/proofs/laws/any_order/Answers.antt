use Rattle.rt_solve.proofs.Ordering.{any_order_of}
use Rattle.rt_solve.proofs.laws.any_order.Goals as goal

pub returns : goal.returns
returns c = any_order_of c.one_list.ensures c.one_choice.ensures c.callees_first.ensures
