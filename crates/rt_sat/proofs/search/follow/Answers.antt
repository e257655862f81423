use Rattle.std.proofs.Common.{◌≡◌, ◌<◌, ◌∙◌, ℕ, List, Contains, ap, length, get_or, subst, arith}
use Rattle.std.proofs.lemmas.List.Elements.{Contains-get_or}
use Rattle.rt_sat.specs.declared.state.Edge.{Edge}
use Rattle.rt_sat.specs.Searches.{IsFollowed}
use Rattle.rt_sat.proofs.Searching.{follows_edge}
use Rattle.rt_sat.proofs.search.follow.Goals as goal

pub bounds-edges-index : goal.bounds-edges-index
bounds-edges-index c =
    let items = c.leaving-index-items.result.now in
    (c.requires.within c.args.state (get_or items c.loop-index.index-index 0)
    (subst (λ (xs : List ℕ). Contains xs (get_or items c.loop-index.index-index 0)) c.leaving-index-items.ensures (Contains-get_or items c.loop-index.index-index 0 c.loop-index-test.true))).0

pub loop-index-preserved : goal.loop-index-preserved
loop-index-preserved c =
    let i = c.loop-index.index-index in
    let items = c.leaving-index-items.result.now in
    let edge = c.index-edges-index.result in
    let leaves : (get_or c.leaving-index-items.result.now c.loop-index.index-index 0 < length c.args.edges.now) × ((e : Edge) → (get_or c.args.edges.now (get_or c.leaving-index-items.result.now c.loop-index.index-index 0) e).from ≡ c.args.state) =
    c.requires.within c.args.state (get_or items i 0) (subst (λ (xs : List ℕ). Contains xs (get_or items i 0)) c.leaving-index-items.ensures (Contains-get_or items i 0 c.loop-index-test.true)) in
    follows_edge c.args.most c.args.edges.now items c.args.found.now c.loop-index.found c.go_along.new.found c.args.next.now.items c.loop-index.next.items c.go_along.new.next.items c.args.state c.args.count.now i edge leaves.0 c.index-edges-index.is
    (ap (λ (z : Edge). z.from) c.index-edges-index.is ∙ leaves.1 edge)
    c.in_ok-go_along.ensures c.loop-index.invariant

pub offset_bounds-edges-index : goal.offset_bounds-edges-index
offset_bounds-edges-index c =
    let items = c.leaving-index-items.result.now in
    let within : get_or c.leaving-index-items.result.now c.loop-index.index-index 0 < length c.args.edges.now =
    (c.requires.within c.args.state (get_or items c.loop-index.index-index 0)
    (subst (λ (xs : List ℕ). Contains xs (get_or items c.loop-index.index-index 0)) c.leaving-index-items.ensures (Contains-get_or items c.loop-index.index-index 0 c.loop-index-test.true))).0 in
    omega arith

pub returns : goal.returns
returns c =
    let all : c.loop-index.index-index ≡ length c.leaving-index-items.result.now = omega arith in
    subst (λ (xs : List ℕ). IsFollowed c.args.most c.args.edges.now xs c.args.found.now c.loop-index.found c.args.next.now.items c.loop-index.next.items c.args.state c.args.count.now (length xs)) c.leaving-index-items.ensures
    (subst (IsFollowed c.args.most c.args.edges.now c.leaving-index-items.result.now c.args.found.now c.loop-index.found c.args.next.now.items c.loop-index.next.items c.args.state c.args.count.now) all c.loop-index.invariant)
