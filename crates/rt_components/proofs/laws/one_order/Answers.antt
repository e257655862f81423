use Rattle.std.proofs.Common.{length}
use Rattle.rt_components.specs.Graphs.{HasEdge}
use Rattle.rt_components.proofs.Unique.{one_list}
use Rattle.rt_components.proofs.laws.one_order.Goals as goal

pub returns : goal.returns
returns c = λ graph groups others p q. one_list (length graph) (HasEdge graph) groups others p q
