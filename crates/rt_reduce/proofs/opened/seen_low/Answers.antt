use Rattle.std.proofs.Common.{[], List, sym, subst}
use Rattle.rt_lines.specs.declared.variable.Dtv.{Dtv}
use Rattle.rt_lines.specs.declared.line.Line.{Line}
use Rattle.rt_lines.specs.declared.line.Line.TheVariants.{Low}
use Rattle.rt_rules.specs.Rules.{Derivable}
use Rattle.rt_sat.proofs.Frames.{side_named}
use Rattle.rt_outline.specs.Lines.{HasBelow}
use Rattle.rt_reduce.specs.Inside.Deciding.{AreAbove}
use Rattle.rt_reduce.proofs.Opening.{given_named, low_seen, no_low, no_of, one_there, yes_of}
use Rattle.rt_reduce.proofs.Telling.{above_named}
use Rattle.rt_reduce.proofs.opened.seen_low.Goals as goal
use Rattle.rt_sat.proofs.Below.{first_in}

pub returns-then-not-exists : goal.returns-then-not-exists
returns-then-not-exists c =
    no_of (Derivable c.args.order.now c.args.lines.now (Low c.args.k c.args.x.now))
    (no_low c.args.order.now c.args.lines.now c.args.k c.args.x.now
    (λ d. (let t = (c.exists.ensures c.args.lines.now c.args.order.now c.in_ok-shape.ensures).1 d in absurd (cc))))

pub lower_of-requires : goal.lower_of-requires
lower_of-requires c =
    one_there c.args.lines.now c.args.x.now c.in_ok-one.field-0.items
    (λ order. (c.exists.ensures c.args.lines.now order c.in_ok-shape.ensures).0 c.if-not-exists.false) c.in_ok-one.ensures

pub leads-requires-clause-from : goal.leads-requires-clause-from
leads-requires-clause-from c =
    above_named c.args.order.now c.args.lines.now c.args.k c.in_ok-lower.lower.named c.deref.result.now
    (side_named c.args.lines.now c.in_ok-lower.ensures.extra c.in_ok-lower.lower.named c.in_ok-lower.ensures.names)
    (subst (λ (xs : List Dtv). AreAbove c.args.order.now c.args.lines.now c.args.k xs) (sym c.deref.ensures.value) c.in_ok-from.ensures)

pub leads-requires-clause-to : goal.leads-requires-clause-to
leads-requires-clause-to c =
    given_named c.args.lines.now c.in_ok-lower.ensures.extra c.in_ok-lower.lower.named c.from_ref.result.now c.args.x.now
    c.in_ok-lower.ensures.names
    (c.in_ok-lower.ensures.given c.args.x.now (first_in c.args.x.now [] c.in_ok-one.field-0.items c.in_ok-one.ensures)) c.from_ref.ensures.value

pub returns-then-branch : goal.returns-then-branch
returns-then-branch c =
    yes_of (Derivable c.args.order.now c.args.lines.now (Low c.args.k c.args.x.now))
    (low_seen c.args.order.now c.args.lines.now c.count.ensures.order c.requires.constants c.args.k c.args.x.now c.deref.result.now c.from_ref.result.now
    (subst (λ (xs : List Dtv). AreAbove c.args.order.now c.args.lines.now c.args.k xs) (sym c.deref.ensures.value) c.in_ok-from.ensures)
    c.from_ref.ensures.value
    (λ o. subst (λ (ls : List Line). HasBelow o ls c.deref.result.now c.from_ref.result.now)
    c.in_ok-lower.ensures.own (c.in_ok-leads.ensures c.if-branch.true o)))
