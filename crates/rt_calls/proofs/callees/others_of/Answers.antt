use Rattle.std.proofs.Common.{◌≡◌, ◌+◌, [], ◌∷◌, ◌++◌, get_or, take, sym, subst, arith}
use Rattle.std.proofs.lemmas.List.{take_all, take_more}
use Rattle.rt_components.specs.Graphs.{successors}
use Rattle.rt_calls.specs.Inside.Places.{AddsPlaces, ArePlacesOf}
use Rattle.rt_calls.proofs.Calling.{found_none, found_more, found_same}
use Rattle.rt_calls.proofs.callees.others_of.Goals as goal

pub loop-member-init : goal.loop-member-init
loop-member-init c = subst (ArePlacesOf c.args.graph.now c.args.places.now c.args.own []) (sym c.new-others.ensures.items) (found_none c.args.graph.now c.args.places.now c.args.own)

pub loop-member-preserved : goal.loop-member-preserved
loop-member-preserved c =
    let graph = c.args.graph.now in
    let places = c.args.places.now in
    let own = c.args.own in
    let members = c.args.members.now in
    let i = c.loop-member.member-index in
    let member = get_or members i 0 in
    let old = c.loop-member.others.items in
    let new = c.add_others.new.others.items in
    let more : take (i + 1) members ≡ take i members ++ member ∷ [] = take_more members i 0 c.loop-member-test.true in
    let adds : AddsPlaces places own (successors graph member) old new = subst (λ nodes. AddsPlaces places own nodes old new) c.successors.ensures.value c.in_ok-add_others.ensures in
    subst (λ ms. ArePlacesOf graph places own ms new) (sym more) (found_more graph places own (take i members) old new member c.loop-member.invariant adds)

pub returns-clause-found : goal.returns-clause-found
returns-clause-found c =
    let graph = c.args.graph.now in
    let places = c.args.places.now in
    let own = c.args.own in
    let members = c.args.members.now in
    let sorted = c.ascending.result.items in
    let whole : ArePlacesOf graph places own members c.loop-member.others.items =
    subst (λ ms. ArePlacesOf graph places own ms c.loop-member.others.items) (take_all c.loop-member.member-index members (omega arith)) c.loop-member.invariant in
    subst (ArePlacesOf graph places own members) (sym c.from_vec.ensures) (found_same graph places own members c.loop-member.others.items sorted c.ascending.ensures.same whole)
