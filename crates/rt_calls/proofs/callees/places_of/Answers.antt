use Rattle.std.proofs.Common.{◌≡◌, ◌+◌, ◌<◌, All, length, sym, ap, subst, ◌∙◌, arith}
use Rattle.std.proofs.lemmas.List.{with_items_is}
use Rattle.rt_components.specs.Groups.{group_at}
use Rattle.rt_calls.specs.Calls.{Calls}
use Rattle.rt_calls.specs.Inside.Places.{ArePlaces, GivesPlace}
use Rattle.rt_calls.proofs.Placing.{group_read, members_below, places_none, places_more}
use Rattle.rt_calls.proofs.callees.places_of.Goals as goal

pub loop-place-init : goal.loop-place-init
loop-place-init c = places_none c.args.groups.now (length c.args.procs.now) c.in_ok-places.places.items (sym c.in_ok-places.places.ok.0 ∙ (c.in_ok-places.ensures.len ∙ c.len.ensures))

pub give_place-requires : goal.give_place-requires
give_place-requires c =
    let procs = c.args.procs.now in
    let groups = c.args.groups.now in
    let place = c.loop-place.place in
    let members : c.items-in-loop-place.result.now ≡ group_at groups place =
    group_read groups c.items.result.now place c.index-items-place.result c.items-in-loop-place.result.now c.items.ensures c.items-in-loop-place.ensures c.index-items-place.is (omega (arith, c.len-place-end.ensures)) in
    let each : length c.deref_mut.result.now ≡ length procs = ap length c.deref_mut.ensures.value ∙ c.loop-place.invariant.each in
    subst (λ ms. All (λ p. p < length c.deref_mut.result.now) ms) (sym members) (subst (λ n. All (λ p. p < n) (group_at groups place)) (sym each) (members_below (length procs) (Calls procs) groups c.requires.groups place))

pub loop-place-preserved : goal.loop-place-preserved
loop-place-preserved c =
    let procs = c.args.procs.now in
    let groups = c.args.groups.now in
    let place = c.loop-place.place in
    let old = c.loop-place.places.items in
    let new = c.give_place.new.places in
    let members : c.items-in-loop-place.result.now ≡ group_at groups place =
    group_read groups c.items.result.now place c.index-items-place.result c.items-in-loop-place.result.now c.items.ensures c.items-in-loop-place.ensures c.index-items-place.is (omega (arith, c.len-place-end.ensures)) in
    let from : GivesPlace c.items-in-loop-place.result.now place old new = subst (λ xs. GivesPlace c.items-in-loop-place.result.now place xs new) c.deref_mut.ensures.value c.give_place.ensures in
    let written = with_items_is c.loop-place.places new (from.each ∙ sym c.loop-place.places.ok.0) in
    subst (ArePlaces groups (length procs) (place + 1)) (sym written)
    (places_more (length procs) (Calls procs) groups c.requires.groups place old new c.loop-place.invariant (subst (λ ms. GivesPlace ms place old new) members from))

pub returns : goal.returns
returns c =
    let upto : c.loop-place.place ≡ length c.args.groups.now = omega (arith, c.len-place-end.ensures, c.requires.numbered) in
    subst (λ n. ArePlaces c.args.groups.now (length c.args.procs.now) n c.loop-place.places.items) upto c.loop-place.invariant
