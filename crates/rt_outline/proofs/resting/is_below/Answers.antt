use Rattle.rt_outline.proofs.Rested.{below_some}
use Rattle.rt_outline.proofs.resting.is_below.Goals as goal

pub returns-clause-below : goal.returns-clause-below
returns-clause-below c = λ e.
    (let m = c.meets.ensures.0 c.if-not-meets.false in
    let h = c.is_there.ensures e in
    below_some c.args.ground.now.named.now c.args.ground.now.arcs.now c.args.ground.now.stands.now c.args.source c.in_ok-found.found c.args.targets.now h.0 m.0
    c.in_ok-found.ensures.found h.1 h.2 m.1 m.2)
