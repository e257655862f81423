use Rattle.std.proofs.Common.{subst}
use Rattle.rt_polar.proofs.Pairs.{from_none, from_other, from_some, IsFrom}
use Rattle.rt_refine.proofs.index.next_at.Goals as goal

pub returns-in_default : goal.returns-in_default
returns-in_default c =
    from_none c.args.index.now c.args.existential c.args.from
    (subst (IsFrom c.args.index.now c.args.existential c.args.from) c.in_default.ensures.steps.0 (c.range.ensures.in_range tt))

pub returns-then-owner-existential : goal.returns-then-owner-existential
returns-then-owner-existential c =
    from_some c.args.index.now c.args.existential c.args.from c.in-Some.least.now c.next.new.self
    (subst (IsFrom c.args.index.now c.args.existential c.args.from) c.in-Some.ensures.steps (c.range.ensures.in_range tt))
    c.if-owner-existential.true

pub returns-else-owner-existential : goal.returns-else-owner-existential
returns-else-owner-existential c =
    from_other c.args.index.now c.args.existential c.args.from c.in-Some.least.now c.next.new.self
    (subst (IsFrom c.args.index.now c.args.existential c.args.from) c.in-Some.ensures.steps (c.range.ensures.in_range tt))
    c.if-owner-existential.false
