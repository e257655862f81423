use Rattle.std.proofs.Common.{inl}
use Rattle.rt_outline.proofs.Rested.{side_back}
use Rattle.rt_outline.proofs.resting.is_side.Goals as goal

pub returns-then-is_left : goal.returns-then-is_left
returns-then-is_left c = λ e. (let r = c.is_left.ensures c.if-is_left.true in (r.0, inl r.1))

pub returns : goal.returns
returns c = λ e.
    (let r = c.is_left-2.ensures e in
    side_back c.args.ground.now.named.now c.args.ground.now.arcs.now c.args.ground.now.stands.now c.args.ground.now.back.now c.requires c.args.variable r.0 r.1)
