use Rattle.rt_reduce.proofs.Compared.{first_compared, named_side, unknown_none, unnamed_none}
use Rattle.rt_reduce.proofs.merging.first_equal.Goals as goal

pub returns-then-not-has_base : goal.returns-then-not-has_base
returns-then-not-has_base c = λ order lines compared has.
    unnamed_none order lines c.args.comparison.now.named c.args.equals.now c.args.sides.now c.args.numbers.now c.args.existential
    compared (λ p. (let t = c.has_base.ensures.1 p in absurd (cc))) has

pub returns-in_default : goal.returns-in_default
returns-in_default c = λ order lines compared has.
    unknown_none order lines c.args.comparison.now.named c.args.equals.now c.args.sides.now c.args.numbers.now c.args.existential
    compared (λ d. c.in_default.ensures d) has

pub returns : goal.returns
returns c = λ order lines compared.
    first_compared order lines c.args.comparison.now.named c.args.equals.now c.args.sides.now c.args.numbers.now c.args.existential
    c.in_ok-first.first compared
    (c.in_ok-first.ensures order lines (compared.alike order c.args.existential c.in-Some.own
    (named_side lines c.args.comparison.now.named c.args.equals.now c.args.sides.now c.args.numbers.now c.args.existential compared
    (c.has_base.ensures.0 c.if-not-has_base.false)) c.in-Some.ensures))
