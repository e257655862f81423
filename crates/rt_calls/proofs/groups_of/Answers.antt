use Rattle.std.proofs.lemmas.Result.{IfOk-weaker}
use Rattle.rt_calls.proofs.Same.{groups_of_graph}
use Rattle.rt_calls.proofs.groups_of.Goals as goal

pub returns : goal.returns
returns c = IfOk-weaker c.groups.result _ _ (λ found are. groups_of_graph c.args.procs.now c.in_ok-graph.graph found c.in_ok-graph.ensures are) c.groups.ensures
