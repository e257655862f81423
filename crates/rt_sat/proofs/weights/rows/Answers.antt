use Rattle.rt_sat.proofs.Weighed.{searches_more}
use Rattle.rt_sat.proofs.weights.rows.Goals as goal

pub loop-number-preserved : goal.loop-number-preserved
loop-number-preserved c =
    searches_more c.args.edges.now c.args.contra c.loop-number.number c.loop-number.rows.items c.push.new.self.items c.search.new.found c.in_ok-push.ensures.items c.in_ok-search.ensures c.loop-number.invariant
