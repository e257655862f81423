use Rattle.rt_sat.proofs.Entered.{line_entered}
use Rattle.rt_sat.proofs.entering.enter_sub.Goals as goal

pub returns : goal.returns
returns c = line_entered c.args.named.now c.args.x.now c.args.y.now c.number-left.result c.number-right.result c.edge.result c.edge-2.result c.args.edges.now.items c.push.new.self.items c.push-2.new.self.items c.number-left.ensures c.number-right.ensures
    c.edge.ensures.from c.edge.ensures.to c.edge.ensures.count c.edge-2.ensures.from c.edge-2.ensures.to c.edge-2.ensures.count c.in_ok-push.ensures.items c.in_ok-push-2.ensures.items
