use Rattle.std.proofs.Common.{List, IsTrue, sym, subst, refl}
use Rattle.rt_base.proofs.Lists.{Contains-here, Contains-there}
use Rattle.rt_lines.specs.declared.variable.Dtv.{Dtv}
use Rattle.rt_lines.specs.declared.line.Line.TheVariants.{Up}
use Rattle.rt_rules.specs.Rules.{Derivable}
use Rattle.rt_reduce.specs.Inside.Deciding.{AreBelow}
use Rattle.rt_reduce.proofs.Exact.{up_led, up_not_led, up_there}
use Rattle.rt_reduce.proofs.Opening.{no_of}
use Rattle.rt_reduce.proofs.Telling.{below_named}
use Rattle.rt_reduce.proofs.Unbounded.{one_named}
use Rattle.rt_reduce.proofs.early.is_up.Goals as goal

pub leads-requires-clause-to : goal.leads-requires-clause-to
leads-requires-clause-to c =
    let left = c.args.left.now in
    let bound = Up c.args.x.now c.args.k in
    below_named c.args.order.now left c.args.k c.args.ways.now.named c.deref.result.now
    (λ l y d h. c.requires.ways.inner.sides l y (Contains-there bound left l d) h)
    (subst (λ (xs : List Dtv). AreBelow c.args.order.now left c.args.k xs) (sym c.deref.ensures.value) c.in_ok-to.ensures)

pub leads-requires-clause-from : goal.leads-requires-clause-from
leads-requires-clause-from c =
    let bound = Up c.args.x.now c.args.k in
    one_named c.args.ways.now.named c.from_ref.result.now c.args.x.now
    (c.requires.ways.inner.sides bound c.args.x.now (Contains-here bound c.args.left.now) refl) c.from_ref.ensures.value

pub returns-then-not-led : goal.returns-then-not-led
returns-then-not-led c =
    no_of (Derivable c.args.order.now c.args.left.now (Up c.args.x.now c.args.k))
    (up_not_led c.args.order.now c.args.left.now c.count.ensures.order c.requires.constants c.args.k c.args.x.now c.args.ways.now
    c.requires.constant c.requires.ways c.from_ref.result.now c.deref.result.now
    (subst (λ (xs : List Dtv). AreBelow c.args.order.now c.args.left.now c.args.k xs) (sym c.deref.ensures.value) c.in_ok-to.ensures)
    c.from_ref.ensures.value (c.in_ok-led.ensures.no c.if-not-led.true))

pub returns : goal.returns
returns c =
    up_there c.args.order.now c.args.left.now c.args.k c.args.x.now (IsTrue c.in_ok-there.there) c.in_ok-there.ensures
    (λ there. up_led c.args.order.now c.args.left.now c.count.ensures.order c.requires.constants c.args.k c.args.x.now c.args.ways.now
    c.requires.constant c.requires.ways c.from_ref.result.now c.deref.result.now
    (subst (λ (xs : List Dtv). AreBelow c.args.order.now c.args.left.now c.args.k xs) (sym c.deref.ensures.value) c.in_ok-to.ensures)
    c.from_ref.ensures.value there (c.in_ok-led.ensures.yes c.if-not-led.false))
