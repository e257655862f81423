use Rattle.std.proofs.lemmas.Result.{IfOk-weaker}
use Rattle.rt_calls.proofs.Adding.{adds_call}
use Rattle.rt_calls.proofs.edges.add_call.Goals as goal

pub returns-in-Call : goal.returns-in-Call
returns-in-Call c =
    IfOk-weaker c.add_callee.result _ _ (λ u adds. adds_call c.args.graph.now c.add_callee.new.graph c.args.caller c.args.site.now c.in-Call.callee c.in-Call.field-1 c.in-Call.is adds) c.add_callee.ensures
