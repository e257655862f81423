use Rattle.std.proofs.Common.{List, Contains, refl, sym, subst}
use Rattle.rt_lines.specs.declared.line.Line.{Line}
use Rattle.rt_lines.specs.declared.line.Line.TheVariants.{Low, Up}
use Rattle.rt_lines.specs.declared.variable.Dtv.{Dtv}
use Rattle.rt_reduce.specs.Inside.Deciding.{AreAbove, AreBelow}
use Rattle.rt_reduce.proofs.Inners.{at_named, few_among, among_named}
use Rattle.rt_reduce.proofs.Telling.{above_named, below_named}
use Rattle.rt_reduce.proofs.Unbounded.{one_named}
use Rattle.rt_reduce.proofs.inner.Inner.is_told.Goals as goal

pub lows-requires-clause-constants : goal.lows-requires-clause-constants
lows-requires-clause-constants c =
    few_among c.args.order.now.count c.args.lines.now c.deref.result.now
    (λ l d. c.in_ok-others-in-Low.ensures l (subst (λ (ls : List Line). Contains ls l) c.deref.ensures.value d)) c.requires.constants

pub leads-requires-clause-from : goal.leads-requires-clause-from
leads-requires-clause-from c =
    let others = c.deref.result.now in
    above_named c.args.order.now others c.in-Low.k c.args.self.now.named c.deref-in-Low.result.now
    (among_named c.args.lines.now others c.args.self.now c.requires.own
    (λ l d. c.in_ok-others-in-Low.ensures l (subst (λ (ls : List Line). Contains ls l) c.deref.ensures.value d)))
    (subst (λ (xs : List Dtv). AreAbove c.args.order.now others c.in-Low.k xs) (sym c.deref-in-Low.ensures.value)
    c.in_ok-from-in-Low.ensures)

pub leads-requires-clause-to : goal.leads-requires-clause-to
leads-requires-clause-to c =
    one_named c.args.self.now.named c.from_ref.result.now c.in-Low.x
    (at_named c.args.lines.now c.args.self.now c.requires.own c.args.i c.index-lines-i.result (Low c.in-Low.k c.in-Low.x) c.in-Low.x
    c.requires.within c.index-lines-i.is c.in-Low.is refl) c.from_ref.ensures.value

pub ups-requires-clause-constants : goal.ups-requires-clause-constants
ups-requires-clause-constants c =
    few_among c.args.order.now.count c.args.lines.now c.deref-in-Up.result.now
    (λ l d. c.in_ok-others-in-Up.ensures l (subst (λ (ls : List Line). Contains ls l) c.deref-in-Up.ensures.value d)) c.requires.constants

pub leads-requires-in-Up-clause-from : goal.leads-requires-in-Up-clause-from
leads-requires-in-Up-clause-from c =
    one_named c.args.self.now.named c.from_ref-in-Up.result.now c.in-Up.x
    (at_named c.args.lines.now c.args.self.now c.requires.own c.args.i c.index-lines-i.result (Up c.in-Up.x c.in-Up.k) c.in-Up.x
    c.requires.within c.index-lines-i.is c.in-Up.is refl) c.from_ref-in-Up.ensures.value

pub leads-requires-in-Up-clause-to : goal.leads-requires-in-Up-clause-to
leads-requires-in-Up-clause-to c =
    let others = c.deref-in-Up.result.now in
    below_named c.args.order.now others c.in-Up.k c.args.self.now.named c.deref-in-Up-2.result.now
    (among_named c.args.lines.now others c.args.self.now c.requires.own
    (λ l d. c.in_ok-others-in-Up.ensures l (subst (λ (ls : List Line). Contains ls l) c.deref-in-Up.ensures.value d)))
    (subst (λ (xs : List Dtv). AreBelow c.args.order.now others c.in-Up.k xs) (sym c.deref-in-Up-2.ensures.value)
    c.in_ok-to-in-Up.ensures)
