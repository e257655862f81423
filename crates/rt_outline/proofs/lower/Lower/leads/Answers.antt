use Rattle.std.proofs.Common.{Contains, subst, sym}
use Rattle.rt_outline.specs.Lines.{Lined}
use Rattle.rt_outline.proofs.Inner.{inner_below, lead_as}
use Rattle.rt_outline.proofs.lower.Lower.leads.Goals as goal

pub numbers-requires : goal.numbers-requires
numbers-requires c = λ x h. subst (λ (v : Lined). Contains v.named x) (sym c.self.view_is) (c.requires.from x h)

pub numbers-requires-2 : goal.numbers-requires-2
numbers-requires-2 c = λ x h. subst (λ (v : Lined). Contains v.named x) (sym c.self.view_is) (c.requires.to x h)

pub returns : goal.returns
returns c = λ t order.
    inner_below c.self.inside.lines.items c.self.inside.named c.self.inside.frame.arcs.items c.self.inside.stands.items c.args.from.now c.args.to.now c.in_ok-sources.sources.items c.in_ok-targets.targets.items c.args.self.now
    c.self.invariant.0 c.self.view_is c.in_ok-sources.ensures c.in_ok-targets.ensures
    (lead_as c.self.inside.frame.arcs.items c.deref.result.now c.self.inside.stands.items c.deref-2.result.now c.in_ok-sources.sources.items c.deref-3.result.now c.in_ok-targets.targets.items c.deref-4.result.now
    c.deref.ensures.value c.deref-2.ensures.value c.deref-3.ensures.value c.deref-4.ensures.value (c.in_ok-yes.ensures.0 t)) order
