use Rattle.std.proofs.Common.{◌≡◌, ◌+◌, ◌<◌, All, length, sym, subst, arith}
use Rattle.rt_components.specs.Groups.{group_at}
use Rattle.rt_calls.specs.Calls.{Calls}
use Rattle.rt_calls.specs.Inside.Places.{ArePlacesOf}
use Rattle.rt_calls.proofs.Calling.{AreCalleesTo, callees_none, callees_more, callees_all}
use Rattle.rt_calls.proofs.Placing.{group_read, members_below}
use Rattle.rt_calls.proofs.callees.callees_of.Goals as goal

pub loop-place-init : goal.loop-place-init
loop-place-init c = callees_none c.in_ok-graph.graph c.in_ok-places.places.items c.args.groups.now c.new-callees.result c.new-callees.ensures

pub others_of-requires-clause-members : goal.others_of-requires-clause-members
others_of-requires-clause-members c =
    let procs = c.args.procs.now in
    let groups = c.args.groups.now in
    let place = c.loop-place.place in
    let members : c.items-members.result.now ≡ group_at groups place =
    group_read groups c.items.result.now place c.index-items-place.result c.items-members.result.now c.items.ensures c.items-members.ensures c.index-items-place.is (omega (arith, c.len.ensures, c.in-Ok.ensures)) in
    subst (λ ms. All (λ p. p < length c.in_ok-graph.graph) ms) (sym members)
    (subst (λ n. All (λ p. p < n) (group_at groups place)) (sym c.in_ok-graph.ensures.each) (members_below (length procs) (Calls procs) groups c.requires place))

pub loop-place-preserved : goal.loop-place-preserved
loop-place-preserved c =
    let graph = c.in_ok-graph.graph in
    let places = c.in_ok-places.places.items in
    let groups = c.args.groups.now in
    let place = c.loop-place.place in
    let old = c.loop-place.callees in
    let list = c.in_ok-others_of.field-0 in
    let members : c.items-members.result.now ≡ group_at groups place =
    group_read groups c.items.result.now place c.index-items-place.result c.items-members.result.now c.items.ensures c.items-members.ensures c.index-items-place.is (omega (arith, c.len.ensures, c.in-Ok.ensures)) in
    let found : ArePlacesOf graph places place (group_at groups place) list =
    subst (λ ms. ArePlacesOf graph places place ms list) members (subst (λ xs. ArePlacesOf graph xs place c.items-members.result.now list) c.deref.ensures.value c.in_ok-others_of.ensures.found) in
    subst (AreCalleesTo graph places groups (place + 1)) (sym c.in_ok-push.ensures.ok)
    (callees_more graph places groups place old list c.loop-place.invariant c.in_ok-others_of.ensures.ascending found)

pub returns : goal.returns
returns c =
    let graph = c.in_ok-graph.graph in
    let places = c.in_ok-places.places.items in
    let groups = c.args.groups.now in
    let upto : c.loop-place.place ≡ length groups = omega (arith, c.len.ensures, c.in-Ok.ensures) in
    callees_all c.args.procs.now graph groups places c.loop-place.callees c.requires c.in_ok-graph.ensures c.in_ok-places.ensures
    (subst (λ n. AreCalleesTo graph places groups n c.loop-place.callees) upto c.loop-place.invariant)
