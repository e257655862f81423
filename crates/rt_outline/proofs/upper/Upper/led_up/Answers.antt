use Rattle.std.proofs.Common.{◌≡◌, ◌∷◌, [], All, Contains, List, refl, subst, sym, ◌∙◌, arith}
use Rattle.std.proofs.lemmas.Grind.{common_steps}
use Rattle.rt_lines.specs.Lines.{HasConstantsBelow}
use Rattle.rt_outline.specs.declared.bounds.Bound.{Bound}
use Rattle.rt_outline.specs.Inside.Bounds.{AreBoundsAt, IsAtOrAbove, upper_bound}
use Rattle.rt_outline.specs.Lines.{Lined, standing}
use Rattle.rt_outline.proofs.Bounded.{bound_below, found_number, up_from, up_has, up_none, up_self, upper_variables, upper_variables_are}
use Rattle.rt_outline.proofs.Entered.{numbers_one}
use Rattle.rt_outline.proofs.Inner.{lead_as}
use Rattle.rt_outline.proofs.Leading.{below_as, turned_as, view_not_below, view_is_below}
use Rattle.rt_outline.proofs.upper.Upper.led_up.Goals as goal

pub below-requires-clause-constants : goal.below-requires-clause-constants
below-requires-clause-constants c = λ b h f.
    bound_below upper_bound c.self.inside.lines.items c.self.inside.named c.args.stands.now c.self.inside.ups.items c.self.invariant.5
    c.args.order.now.count (λ k z p. p)
    (subst (λ (v : Lined). All (HasConstantsBelow c.args.order.now.count) (standing v.lines c.args.stands.now)) (sym c.self.view_is) c.requires.constants)
    b (subst (λ (bs : List Bound). Contains bs b) c.deref.ensures.value h) f

pub returns-then-is_empty-clause-no : goal.returns-then-is_empty-clause-no
returns-then-is_empty-clause-no c = λ e.
    let empty : c.in_ok-targets.targets.items ≡ [] = grind (arith, common_steps) in
    up_none c.self.inside.lines.items c.self.inside.named c.args.stands.now c.self.inside.ups.items c.self.invariant.5
    c.args.order.now c.args.k c.in_ok-targets.targets.items
    (subst (λ (bs : List Bound). AreBoundsAt (IsAtOrAbove c.args.order.now c.args.k) c.args.stands.now bs c.in_ok-targets.targets.items)
    c.deref.ensures.value c.in_ok-targets.ensures)
    c.args.x.now c.args.self.now c.self.view_is empty

pub returns-then-contains-clause-yes : goal.returns-then-contains-clause-yes
returns-then-contains-clause-yes c = λ e.
    up_self c.self.inside.lines.items c.self.inside.named c.args.stands.now c.self.inside.ups.items c.self.invariant.5
    c.args.order.now c.args.k c.in_ok-targets.targets.items
    (subst (λ (bs : List Bound). AreBoundsAt (IsAtOrAbove c.args.order.now c.args.k) c.args.stands.now bs c.in_ok-targets.targets.items)
    c.deref.ensures.value c.in_ok-targets.ensures)
    c.args.x.now c.args.self.now c.self.view_is c.number-source.result
    (found_number c.in_ok-targets.targets.items c.deref-2.result.now c.number-source.result c.deref-2.ensures.value
    (sym c.contains.ensures.value ∙ c.if-contains.true))
    c.number-source.ensures

pub tell-requires : goal.tell-requires
tell-requires c =
    turned_as c.self.inside.frame.arcs.items c.deref-3.result.now c.self.inside.frame.back.items c.deref-4.result.now c.deref-3.ensures.value c.deref-4.ensures.value c.self.invariant.2.turned

pub returns-clause-no : goal.returns-clause-no
returns-clause-no c = λ e has.
    let lines = c.self.inside.lines.items in
    let named = c.self.inside.named in
    let stands = c.args.stands.now in
    let order = c.args.order.now in
    let targets = c.in_ok-targets.targets.items in
    let at : AreBoundsAt (IsAtOrAbove order c.args.k) stands c.self.inside.ups.items targets =
    subst (λ (bs : List Bound). AreBoundsAt (IsAtOrAbove order c.args.k) stands bs targets) c.deref.ensures.value c.in_ok-targets.ensures
    in
    view_not_below lines named c.self.inside.frame.arcs.items stands
    (c.args.x.now ∷ []) (upper_variables lines named stands c.self.inside.ups.items c.self.invariant.5 order c.args.k targets at c.args.x.now)
    (c.number-source.result ∷ []) targets
    (numbers_one named c.args.x.now c.number-source.result (c.number-source.result ∷ []) refl c.number-source.ensures)
    (upper_variables_are lines named stands c.self.inside.ups.items c.self.invariant.5 order c.args.k targets at c.args.x.now)
    c.args.self.now c.self.view_is c.self.invariant.0
    (λ may. c.in_ok-led.ensures.no e
    (lead_as c.deref-3.result.now c.self.inside.frame.arcs.items stands stands (c.number-source.result ∷ []) (c.number-source.result ∷ [])
    c.deref-5.result.now targets (sym c.deref-3.ensures.value) refl refl (sym c.deref-5.ensures.value) may)) order
    (up_has lines named stands c.self.inside.ups.items c.self.invariant.5 order c.args.k targets at c.args.x.now c.args.self.now c.self.view_is has)

pub returns-clause-yes : goal.returns-clause-yes
returns-clause-yes c = λ e.
    let lines = c.self.inside.lines.items in
    let named = c.self.inside.named in
    let stands = c.args.stands.now in
    let order = c.args.order.now in
    let targets = c.in_ok-targets.targets.items in
    let at : AreBoundsAt (IsAtOrAbove order c.args.k) stands c.self.inside.ups.items targets =
    subst (λ (bs : List Bound). AreBoundsAt (IsAtOrAbove order c.args.k) stands bs targets) c.deref.ensures.value c.in_ok-targets.ensures
    in
    up_from lines named stands c.self.inside.ups.items c.self.invariant.5 order c.args.k targets at c.args.x.now c.args.self.now c.self.view_is
    (view_is_below lines named c.self.inside.frame.arcs.items stands
    (c.args.x.now ∷ []) (upper_variables lines named stands c.self.inside.ups.items c.self.invariant.5 order c.args.k targets at c.args.x.now)
    (c.number-source.result ∷ []) targets
    (numbers_one named c.args.x.now c.number-source.result (c.number-source.result ∷ []) refl c.number-source.ensures)
    (upper_variables_are lines named stands c.self.inside.ups.items c.self.invariant.5 order c.args.k targets at c.args.x.now)
    c.args.self.now c.self.view_is c.self.invariant.1
    (below_as named c.self.inside.frame.arcs.items c.deref-3.result.now stands (c.number-source.result ∷ []) (c.number-source.result ∷ [])
    targets c.deref-5.result.now c.deref-3.ensures.value refl c.deref-5.ensures.value (c.in_ok-led.ensures.yes e)) order)
