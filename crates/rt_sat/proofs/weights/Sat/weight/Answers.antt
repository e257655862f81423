use Rattle.std.proofs.Common.{sym}
use Rattle.rt_sat.proofs.Weighed.{co_weight, contra_weight}
use Rattle.rt_sat.proofs.weights.Sat.weight.Goals as goal

pub returns-in-Co : goal.returns-in-Co
returns-in-Co c =
    co_weight c.self.inside.lines.items c.self.inside.extra.items c.self.inside.named c.self.inside.co.items c.self.inside.contra.items c.self.invariant c.args.self.now (sym c.self.view_is)
    c.args.p c.args.q c.requires.p c.requires.q c.args.q_sign c.turns.result c.turns.ensures c.deref.result.now c.known.result c.known.ensures c.args.p_sign c.in-Co.is c.deref.ensures.value

pub returns-in-Contra : goal.returns-in-Contra
returns-in-Contra c =
    contra_weight c.self.inside.lines.items c.self.inside.extra.items c.self.inside.named c.self.inside.co.items c.self.inside.contra.items c.self.invariant c.args.self.now (sym c.self.view_is)
    c.args.p c.args.q c.requires.p c.requires.q c.args.q_sign c.turns.result c.turns.ensures c.deref-in-Contra.result.now c.known-in-Contra.result c.known-in-Contra.ensures c.args.p_sign c.in-Contra.is c.deref-in-Contra.ensures.value
