use Rattle.std.proofs.Common.{◌≡◌, ◌+◌, [], ◌∷◌, ◌++◌, slice_index, get_or, take, sym, ap, subst, ◌∙◌, arith}
use Rattle.std.proofs.lemmas.List.{take_all, take_more}
use Rattle.rt_calls.specs.Inside.Places.{AddsPlaces}
use Rattle.rt_calls.proofs.Calling.{adds_none, adds_other, adds_own}
use Rattle.rt_calls.proofs.callees.add_others.Goals as goal
use Rattle.rt_calls.proofs.callees.add_others.Goals.{then-place-own+in_ok-push, else-place-own}

pub loop-node-init : goal.loop-node-init
loop-node-init c = adds_none c.args.places.now c.args.own c.args.others.now.items

pub loop-node-preserved : goal.loop-node-preserved
loop-node-preserved c =
    let places = c.args.places.now in
    let nodes = c.args.nodes.now in
    let i = c.loop-node.node-index in
    let node = get_or nodes i 0 in
    let old = c.args.others.now.items in
    let mid = c.loop-node.others.items in
    let more : take (i + 1) nodes ≡ take i nodes ++ node ∷ [] = take_more nodes i 0 c.loop-node-test.true in
    subst (λ ns. AddsPlaces places c.args.own ns old c.if-place-own.others.items) (sym more)
    (elim c.if-place-own.branch [
      | then-place-own+in_ok-push w ↦
          let new : c.if-place-own.others.items ≡ mid ++ slice_index places node ∷ [] = ap (λ v. v.items) w.others-is ∙ w.in_ok-push.ensures.items in
          subst (AddsPlaces places c.args.own (take i nodes ++ node ∷ []) old) (sym new) (adds_other places c.args.own (take i nodes) old mid c.loop-node.invariant node w.if-place-own.true)
      | else-place-own w ↦
          subst (λ others. AddsPlaces places c.args.own (take i nodes ++ node ∷ []) old others.items) (sym w.others-is) (adds_own places c.args.own (take i nodes) old mid c.loop-node.invariant node w.if-place-own.false)
    ])

pub returns : goal.returns
returns c =
    let nodes = c.args.nodes.now in
    subst (λ ns. AddsPlaces c.args.places.now c.args.own ns c.args.others.now.items c.loop-node.others.items) (take_all c.loop-node.node-index nodes (omega arith)) c.loop-node.invariant
