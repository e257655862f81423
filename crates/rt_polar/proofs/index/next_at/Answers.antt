use Rattle.std.proofs.Common.{subst}
use Rattle.rt_polar.proofs.Pairs.{from_none, from_other, from_some, IsFrom}
use Rattle.rt_polar.proofs.index.next_at.Goals as goal

pub returns-in_default : goal.returns-in_default
returns-in_default c = from_none c.args.index.now c.args.v c.args.from (subst (IsFrom c.args.index.now c.args.v c.args.from) c.in_default.ensures.steps.0 (c.range.ensures.in_range tt))

pub returns-then-existential-v : goal.returns-then-existential-v
returns-then-existential-v c =
    from_some c.args.index.now c.args.v c.args.from c.in-Some.least.now c.next.new.self (subst (IsFrom c.args.index.now c.args.v c.args.from) c.in-Some.ensures.steps (c.range.ensures.in_range tt)) c.if-existential-v.true

pub returns-else-existential-v : goal.returns-else-existential-v
returns-else-existential-v c =
    from_other c.args.index.now c.args.v c.args.from c.in-Some.least.now c.next.new.self (subst (IsFrom c.args.index.now c.args.v c.args.from) c.in-Some.ensures.steps (c.range.ensures.in_range tt)) c.if-existential-v.false
