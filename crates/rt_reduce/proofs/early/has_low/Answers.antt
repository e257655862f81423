use Rattle.std.proofs.Common.{List, sym, subst, refl}
use Rattle.rt_base.proofs.Lists.{Contains-here, Contains-there}
use Rattle.rt_lines.specs.declared.variable.Dtv.{Dtv}
use Rattle.rt_lines.specs.declared.line.Line.TheVariants.{Low}
use Rattle.rt_reduce.specs.Inside.Deciding.{AreAbove}
use Rattle.rt_reduce.proofs.Opening.{low_seen}
use Rattle.rt_reduce.proofs.Telling.{above_named}
use Rattle.rt_reduce.proofs.Unbounded.{low_below, one_named}
use Rattle.rt_reduce.proofs.early.has_low.Goals as goal

pub leads-requires-clause-from : goal.leads-requires-clause-from
leads-requires-clause-from c =
    let left = c.args.left.now in
    let bound = Low c.args.k c.args.x.now in
    above_named c.args.order.now left c.args.k c.args.inner.now.named c.deref.result.now
    (λ l y d h. c.requires.inner.sides l y (Contains-there bound left l d) h)
    (subst (λ (xs : List Dtv). AreAbove c.args.order.now left c.args.k xs) (sym c.deref.ensures.value) c.in_ok-from.ensures)

pub leads-requires-clause-to : goal.leads-requires-clause-to
leads-requires-clause-to c =
    let bound = Low c.args.k c.args.x.now in
    one_named c.args.inner.now.named c.from_ref.result.now c.args.x.now
    (c.requires.inner.sides bound c.args.x.now (Contains-here bound c.args.left.now) refl) c.from_ref.ensures.value

pub returns : goal.returns
returns c = λ yes.
    low_seen c.args.order.now c.args.left.now c.count.ensures.order c.requires.constants c.args.k c.args.x.now c.deref.result.now
    c.from_ref.result.now
    (subst (λ (xs : List Dtv). AreAbove c.args.order.now c.args.left.now c.args.k xs) (sym c.deref.ensures.value) c.in_ok-from.ensures)
    c.from_ref.ensures.value
    (low_below c.args.order.now c.args.left.now c.args.k c.args.x.now (λ other. (c.in_ok-there.ensures other).0 yes) c.args.inner.now c.requires.inner c.deref.result.now
    c.from_ref.result.now (c.in_ok-leads.ensures c.if-not-branch.false c.args.order.now))
