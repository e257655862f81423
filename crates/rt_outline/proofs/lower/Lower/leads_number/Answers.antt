use Rattle.std.proofs.Common.{[], ◌∷◌, refl}
use Rattle.rt_outline.proofs.Inner.{inner_numbers, lead_as}
use Rattle.rt_outline.proofs.lower.Lower.leads_number.Goals as goal

pub returns : goal.returns
returns c = λ t order.
    inner_numbers c.self.inside.lines.items c.self.inside.named c.self.inside.frame.arcs.items c.self.inside.stands.items c.args.from c.args.to (c.args.from ∷ []) (c.args.to ∷ []) c.args.self.now c.self.invariant.0 c.self.view_is
    c.requires.from c.requires.to refl refl
    (lead_as c.self.inside.frame.arcs.items c.deref.result.now c.self.inside.stands.items c.deref-2.result.now (c.args.from ∷ []) (c.args.from ∷ []) (c.args.to ∷ []) (c.args.to ∷ []) c.deref.ensures.value c.deref-2.ensures.value refl refl (c.in_ok-yes.ensures.0 t)) order
