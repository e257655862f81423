use Rattle.std.proofs.Common.{[], ◌∷◌, List, subst}
use Rattle.rt_lines.specs.declared.line.Line.{Line}
use Rattle.rt_lines.specs.declared.line.Line.TheVariants.{Sub}
use Rattle.rt_rules.specs.Rules.{Derivable}
use Rattle.rt_outline.specs.Lines.{HasBelow}
use Rattle.rt_reduce.proofs.Opening.{apart, below_seen, given_named, no_of, pair_there, second_in, yes_of}
use Rattle.rt_reduce.proofs.opened.seen_below.Goals as goal
use Rattle.rt_sat.proofs.Below.{first_in}

pub returns-then-not-are_one : goal.returns-then-not-are_one
returns-then-not-are_one c = λ order.
    no_of (Derivable order c.args.lines.now (Sub c.args.x.now c.args.y.now))
    (apart order c.args.lines.now c.args.x.now c.args.y.now
    (λ d. (let t = (c.are_one.ensures c.args.lines.now order c.in_ok-shape.ensures).1 d in absurd (cc))))

pub lower_of-requires : goal.lower_of-requires
lower_of-requires c =
    pair_there c.args.lines.now c.args.x.now c.args.y.now c.in_ok-pair.field-0.items
    (λ order. (c.are_one.ensures c.args.lines.now order c.in_ok-shape.ensures).0 c.if-not-are_one.false) c.in_ok-pair.ensures

pub leads-requires-clause-from : goal.leads-requires-clause-from
leads-requires-clause-from c =
    given_named c.args.lines.now c.in_ok-lower.ensures.extra c.in_ok-lower.lower.named c.from_ref.result.now c.args.x.now
    c.in_ok-lower.ensures.names
    (c.in_ok-lower.ensures.given c.args.x.now (first_in c.args.x.now (c.args.y.now ∷ []) c.in_ok-pair.field-0.items c.in_ok-pair.ensures))
    c.from_ref.ensures.value

pub leads-requires-clause-to : goal.leads-requires-clause-to
leads-requires-clause-to c =
    given_named c.args.lines.now c.in_ok-lower.ensures.extra c.in_ok-lower.lower.named c.from_ref-2.result.now c.args.y.now
    c.in_ok-lower.ensures.names
    (c.in_ok-lower.ensures.given c.args.y.now (second_in c.args.x.now c.args.y.now c.in_ok-pair.field-0.items c.in_ok-pair.ensures))
    c.from_ref-2.ensures.value

pub returns-then-branch : goal.returns-then-branch
returns-then-branch c = λ order.
    yes_of (Derivable order c.args.lines.now (Sub c.args.x.now c.args.y.now))
    (below_seen order c.args.lines.now c.args.x.now c.args.y.now c.from_ref.result.now c.from_ref-2.result.now c.from_ref.ensures.value
    c.from_ref-2.ensures.value
    (λ o. subst (λ (ls : List Line). HasBelow o ls c.from_ref.result.now c.from_ref-2.result.now)
    c.in_ok-lower.ensures.own (c.in_ok-leads.ensures c.if-branch.true o)))
