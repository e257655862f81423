use Rattle.std.proofs.Common.{◌≡◌, Contains, IfSome, sym, subst}
use Rattle.rt_outline.specs.Lines.{HasBelow, Lined}
use Rattle.rt_reduce.specs.Inside.Deciding.{IsTableAbout}
use Rattle.rt_reduce.proofs.Inners.{about_below}
use Rattle.rt_reduce.proofs.inner.Inner.leads.Goals as goal

pub leads-requires-clause-from : goal.leads-requires-clause-from
leads-requires-clause-from c = λ x h.
    subst (λ (v : Lined). Contains v.named x) (sym c.self.view_is) (c.requires.from x h)

pub leads-requires-clause-to : goal.leads-requires-clause-to
leads-requires-clause-to c = λ x h.
    subst (λ (v : Lined). Contains v.named x) (sym c.self.view_is) (c.requires.to x h)

pub returns-then-branch : goal.returns-then-branch
returns-then-branch c = λ yes order.
    subst (λ (v : Lined). HasBelow order v.lines c.args.from.now c.args.to.now) c.self.view_is
    (c.in_ok-leads.ensures c.if-branch.true order)

pub returns-in-Some : goal.returns-in-Some
returns-in-Some c = λ yes order.
    let inner : Lined = c.self.inside.arcs in
    let view : inner ≡ c.args.self.now = c.self.view_is in
    let about : IsTableAbout inner.lines c.in-Some.table =
    subst (λ o. IfSome o (IsTableAbout inner.lines)) c.in-Some.is c.self.invariant.1 in
    subst (λ (v : Lined). HasBelow order v.lines c.args.from.now c.args.to.now) view
    (about_below inner c.in-Some.table about c.self.invariant.0 order c.args.from.now c.args.to.now
    (λ x h. subst (λ (v : Lined). Contains v.named x) (sym view) (c.requires.from x h))
    (λ y h. subst (λ (v : Lined). Contains v.named y) (sym view) (c.requires.to y h))
    (c.tells.ensures yes about.told about.tells order))
