use Rattle.rt_sat.proofs.hints.pushed.Goals as goal

pub returns-clause-told : goal.returns-clause-told
returns-clause-told c lines t = c.in_ok-edges.ensures.told c.args.frame.now.named c.args.frame.now.flips.items lines (c.in_ok-pushed.ensures.told lines t)

pub returns-clause-within : goal.returns-clause-within
returns-clause-within c = c.in_ok-edges.ensures.within c.args.frame.now.named c.in_ok-pushed.ensures.family
