use Rattle.std.proofs.Common.{List, IsTrue, sym, subst, refl}
use Rattle.rt_base.proofs.Lists.{Contains-here, Contains-there}
use Rattle.rt_lines.specs.declared.variable.Dtv.{Dtv}
use Rattle.rt_lines.specs.declared.line.Line.TheVariants.{Low}
use Rattle.rt_rules.specs.Rules.{Derivable}
use Rattle.rt_reduce.specs.Inside.Deciding.{AreAbove}
use Rattle.rt_reduce.proofs.Exact.{low_led, low_not_led, low_there}
use Rattle.rt_reduce.proofs.Opening.{no_of}
use Rattle.rt_reduce.proofs.Telling.{above_named}
use Rattle.rt_reduce.proofs.Unbounded.{one_named}
use Rattle.rt_reduce.proofs.early.is_low.Goals as goal

pub leads-requires-clause-from : goal.leads-requires-clause-from
leads-requires-clause-from c =
    let left = c.args.left.now in
    let bound = Low c.args.k c.args.x.now in
    above_named c.args.order.now left c.args.k c.args.ways.now.named c.deref.result.now
    (λ l y d h. c.requires.ways.inner.sides l y (Contains-there bound left l d) h)
    (subst (λ (xs : List Dtv). AreAbove c.args.order.now left c.args.k xs) (sym c.deref.ensures.value) c.in_ok-from.ensures)

pub leads-requires-clause-to : goal.leads-requires-clause-to
leads-requires-clause-to c =
    let bound = Low c.args.k c.args.x.now in
    one_named c.args.ways.now.named c.from_ref.result.now c.args.x.now
    (c.requires.ways.inner.sides bound c.args.x.now (Contains-here bound c.args.left.now) refl) c.from_ref.ensures.value

pub returns-then-not-led : goal.returns-then-not-led
returns-then-not-led c =
    no_of (Derivable c.args.order.now c.args.left.now (Low c.args.k c.args.x.now))
    (low_not_led c.args.order.now c.args.left.now c.count.ensures.order c.requires.constants c.args.k c.args.x.now c.args.ways.now
    c.requires.ways c.deref.result.now c.from_ref.result.now
    (subst (λ (xs : List Dtv). AreAbove c.args.order.now c.args.left.now c.args.k xs) (sym c.deref.ensures.value) c.in_ok-from.ensures)
    c.from_ref.ensures.value (c.in_ok-led.ensures.no c.if-not-led.true))

pub returns : goal.returns
returns c =
    low_there c.args.order.now c.args.left.now c.args.k c.args.x.now (IsTrue c.in_ok-there.there) c.in_ok-there.ensures
    (λ there. low_led c.args.order.now c.args.left.now c.count.ensures.order c.requires.constants c.args.k c.args.x.now c.args.ways.now
    c.requires.ways c.deref.result.now c.from_ref.result.now
    (subst (λ (xs : List Dtv). AreAbove c.args.order.now c.args.left.now c.args.k xs) (sym c.deref.ensures.value) c.in_ok-from.ensures)
    c.from_ref.ensures.value there (c.in_ok-led.ensures.yes c.if-not-led.false))
