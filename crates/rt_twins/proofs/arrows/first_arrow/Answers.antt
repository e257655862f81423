use Rattle.std.proofs.Common.{subst, arith}
use Rattle.rt_polar.proofs.Pairs.{from_none, from_other, from_some, IsFrom}
use Rattle.rt_twins.proofs.arrows.first_arrow.Goals as goal

pub returns-in_default : goal.returns-in_default
returns-in_default c = λ n.
    from_none c.args.arrows.now c.args.existential 0
    (subst (IsFrom c.args.arrows.now c.args.existential 0) c.in_default.ensures.steps.0 (c.range.ensures.in_range tt)) n (omega arith)

pub returns-then-from-existential : goal.returns-then-from-existential
returns-then-from-existential c =
    (from_some c.args.arrows.now c.args.existential 0 c.in-Some.least.now c.next.new.self
    (subst (IsFrom c.args.arrows.now c.args.existential 0) c.in-Some.ensures.steps (c.range.ensures.in_range tt))
    c.if-from-existential.true).1

pub returns-else-from-existential : goal.returns-else-from-existential
returns-else-from-existential c = λ n.
    from_other c.args.arrows.now c.args.existential 0 c.in-Some.least.now c.next.new.self
    (subst (IsFrom c.args.arrows.now c.args.existential 0) c.in-Some.ensures.steps (c.range.ensures.in_range tt))
    c.if-from-existential.false n (omega arith)
