use Rattle.std.proofs.Common.{[], List, sym, subst}
use Rattle.rt_lines.specs.declared.variable.Dtv.{Dtv}
use Rattle.rt_lines.specs.declared.line.Line.{Line}
use Rattle.rt_lines.specs.declared.line.Line.TheVariants.{Up}
use Rattle.rt_rules.specs.Rules.{Derivable}
use Rattle.rt_sat.proofs.Frames.{side_named}
use Rattle.rt_outline.specs.Lines.{HasBelow}
use Rattle.rt_reduce.specs.Inside.Deciding.{AreBelow}
use Rattle.rt_reduce.proofs.Opening.{given_named, up_seen, no_up, no_of, one_there, yes_of}
use Rattle.rt_reduce.proofs.Telling.{below_named}
use Rattle.rt_reduce.proofs.opened.seen_up.Goals as goal
use Rattle.rt_sat.proofs.Below.{first_in}

pub returns-then-not-exists : goal.returns-then-not-exists
returns-then-not-exists c =
    no_of (Derivable c.args.order.now c.args.lines.now (Up c.args.x.now c.args.k))
    (no_up c.args.order.now c.args.lines.now c.args.k c.args.x.now
    (λ d. (let t = (c.exists.ensures c.args.lines.now c.args.order.now c.in_ok-shape.ensures).1 d in absurd (cc))))

pub lower_of-requires : goal.lower_of-requires
lower_of-requires c =
    one_there c.args.lines.now c.args.x.now c.in_ok-one.field-0.items
    (λ order. (c.exists.ensures c.args.lines.now order c.in_ok-shape.ensures).0 c.if-not-exists.false) c.in_ok-one.ensures

pub leads-requires-clause-to : goal.leads-requires-clause-to
leads-requires-clause-to c =
    below_named c.args.order.now c.args.lines.now c.args.k c.in_ok-lower.lower.named c.deref.result.now
    (side_named c.args.lines.now c.in_ok-lower.ensures.extra c.in_ok-lower.lower.named c.in_ok-lower.ensures.names)
    (subst (λ (xs : List Dtv). AreBelow c.args.order.now c.args.lines.now c.args.k xs) (sym c.deref.ensures.value) c.in_ok-to.ensures)

pub leads-requires-clause-from : goal.leads-requires-clause-from
leads-requires-clause-from c =
    given_named c.args.lines.now c.in_ok-lower.ensures.extra c.in_ok-lower.lower.named c.from_ref.result.now c.args.x.now
    c.in_ok-lower.ensures.names
    (c.in_ok-lower.ensures.given c.args.x.now (first_in c.args.x.now [] c.in_ok-one.field-0.items c.in_ok-one.ensures)) c.from_ref.ensures.value

pub returns-then-branch : goal.returns-then-branch
returns-then-branch c =
    yes_of (Derivable c.args.order.now c.args.lines.now (Up c.args.x.now c.args.k))
    (up_seen c.args.order.now c.args.lines.now c.count.ensures.order c.requires.constants c.args.k c.args.x.now c.requires.constant c.from_ref.result.now c.deref.result.now
    (subst (λ (xs : List Dtv). AreBelow c.args.order.now c.args.lines.now c.args.k xs) (sym c.deref.ensures.value) c.in_ok-to.ensures)
    c.from_ref.ensures.value
    (λ o. subst (λ (ls : List Line). HasBelow o ls c.from_ref.result.now c.deref.result.now)
    c.in_ok-lower.ensures.own (c.in_ok-leads.ensures c.if-branch.true o)))
