use Rattle.std.proofs.Common.{◌≡◌, ◌∷◌, [], All, Contains, List, refl, subst, sym, ◌∙◌, arith}
use Rattle.std.proofs.lemmas.Grind.{common_steps}
use Rattle.rt_lines.specs.declared.line.Line.TheVariants.{Low}
use Rattle.rt_lines.specs.Lines.{HasConstantsBelow}
use Rattle.rt_lines.specs.Orders.{IsAtOrBelow}
use Rattle.rt_outline.specs.declared.bounds.Bound.{Bound}
use Rattle.rt_outline.specs.Inside.Bounds.{AreBoundsAt}
use Rattle.rt_outline.specs.Lines.{Lined, standing}
use Rattle.rt_outline.proofs.Bounded.{bound_below, found_number, low_from, low_has, low_none, low_self, lower_variables, lower_variables_are}
use Rattle.rt_outline.proofs.Entered.{numbers_one}
use Rattle.rt_outline.proofs.Inner.{lead_as}
use Rattle.rt_outline.proofs.Leading.{below_as, turned_as, view_not_below, view_is_below}
use Rattle.rt_outline.proofs.upper.Upper.led_low.Goals as goal

pub above-requires-clause-constants : goal.above-requires-clause-constants
above-requires-clause-constants c = λ b h f.
    bound_below Low c.self.inside.lines.items c.self.inside.named c.args.stands.now c.self.inside.lows.items c.self.invariant.4
    c.args.order.now.count (λ k z p. p)
    (subst (λ (v : Lined). All (HasConstantsBelow c.args.order.now.count) (standing v.lines c.args.stands.now)) (sym c.self.view_is) c.requires.constants)
    b (subst (λ (bs : List Bound). Contains bs b) c.deref.ensures.value h) f

pub returns-then-is_empty-clause-no : goal.returns-then-is_empty-clause-no
returns-then-is_empty-clause-no c = λ e.
    let empty : c.in_ok-sources.sources.items ≡ [] = grind (arith, common_steps) in
    low_none c.self.inside.lines.items c.self.inside.named c.args.stands.now c.self.inside.lows.items c.self.invariant.4
    c.args.order.now c.args.k c.in_ok-sources.sources.items
    (subst (λ (bs : List Bound). AreBoundsAt (IsAtOrBelow c.args.order.now c.args.k) c.args.stands.now bs c.in_ok-sources.sources.items)
    c.deref.ensures.value c.in_ok-sources.ensures)
    c.args.x.now c.args.self.now c.self.view_is empty

pub returns-then-contains-clause-yes : goal.returns-then-contains-clause-yes
returns-then-contains-clause-yes c = λ e.
    low_self c.self.inside.lines.items c.self.inside.named c.args.stands.now c.self.inside.lows.items c.self.invariant.4
    c.args.order.now c.args.k c.in_ok-sources.sources.items
    (subst (λ (bs : List Bound). AreBoundsAt (IsAtOrBelow c.args.order.now c.args.k) c.args.stands.now bs c.in_ok-sources.sources.items)
    c.deref.ensures.value c.in_ok-sources.ensures)
    c.args.x.now c.args.self.now c.self.view_is c.number-target.result
    (found_number c.in_ok-sources.sources.items c.deref-2.result.now c.number-target.result c.deref-2.ensures.value
    (sym c.contains.ensures.value ∙ c.if-contains.true))
    c.number-target.ensures

pub tell-requires : goal.tell-requires
tell-requires c =
    turned_as c.self.inside.frame.arcs.items c.deref-3.result.now c.self.inside.frame.back.items c.deref-4.result.now c.deref-3.ensures.value c.deref-4.ensures.value c.self.invariant.2.turned

pub returns-clause-no : goal.returns-clause-no
returns-clause-no c = λ e has.
    let lines = c.self.inside.lines.items in
    let named = c.self.inside.named in
    let stands = c.args.stands.now in
    let order = c.args.order.now in
    let sources = c.in_ok-sources.sources.items in
    let at : AreBoundsAt (IsAtOrBelow order c.args.k) stands c.self.inside.lows.items sources =
    subst (λ (bs : List Bound). AreBoundsAt (IsAtOrBelow order c.args.k) stands bs sources) c.deref.ensures.value c.in_ok-sources.ensures
    in
    view_not_below lines named c.self.inside.frame.arcs.items stands
    (lower_variables lines named stands c.self.inside.lows.items c.self.invariant.4 order c.args.k sources at c.args.x.now) (c.args.x.now ∷ [])
    sources (c.number-target.result ∷ [])
    (lower_variables_are lines named stands c.self.inside.lows.items c.self.invariant.4 order c.args.k sources at c.args.x.now)
    (numbers_one named c.args.x.now c.number-target.result (c.number-target.result ∷ []) refl c.number-target.ensures)
    c.args.self.now c.self.view_is c.self.invariant.0
    (λ may. c.in_ok-led.ensures.no e
    (lead_as c.deref-3.result.now c.self.inside.frame.arcs.items stands stands c.deref-5.result.now sources
    (c.number-target.result ∷ []) (c.number-target.result ∷ []) (sym c.deref-3.ensures.value) refl (sym c.deref-5.ensures.value) refl may)) order
    (low_has lines named stands c.self.inside.lows.items c.self.invariant.4 order c.args.k sources at c.args.x.now c.args.self.now c.self.view_is has)

pub returns-clause-yes : goal.returns-clause-yes
returns-clause-yes c = λ e.
    let lines = c.self.inside.lines.items in
    let named = c.self.inside.named in
    let stands = c.args.stands.now in
    let order = c.args.order.now in
    let sources = c.in_ok-sources.sources.items in
    let at : AreBoundsAt (IsAtOrBelow order c.args.k) stands c.self.inside.lows.items sources =
    subst (λ (bs : List Bound). AreBoundsAt (IsAtOrBelow order c.args.k) stands bs sources) c.deref.ensures.value c.in_ok-sources.ensures
    in
    low_from lines named stands c.self.inside.lows.items c.self.invariant.4 order c.args.k sources at c.args.x.now c.args.self.now c.self.view_is
    (view_is_below lines named c.self.inside.frame.arcs.items stands
    (lower_variables lines named stands c.self.inside.lows.items c.self.invariant.4 order c.args.k sources at c.args.x.now) (c.args.x.now ∷ [])
    sources (c.number-target.result ∷ [])
    (lower_variables_are lines named stands c.self.inside.lows.items c.self.invariant.4 order c.args.k sources at c.args.x.now)
    (numbers_one named c.args.x.now c.number-target.result (c.number-target.result ∷ []) refl c.number-target.ensures)
    c.args.self.now c.self.view_is c.self.invariant.1
    (below_as named c.self.inside.frame.arcs.items c.deref-3.result.now stands sources c.deref-5.result.now
    (c.number-target.result ∷ []) (c.number-target.result ∷ []) c.deref-3.ensures.value c.deref-5.ensures.value refl (c.in_ok-led.ensures.yes e)) order)
