use Rattle.std.proofs.Common.{◌≡◌, ℕ, List, ◌+◌, ◌-◌, ◌<◌, length, get_or, take, drop, slice_index, ap, ◌∙◌, arith}
use Rattle.std.proofs.lemmas.List.{take_rest, get_or-drop, length-drop}
use Rattle.rt_components.proofs.Closing.{closed_more, closed_all}
use Rattle.rt_components.proofs.walk.close.Goals as goal

rest_length : (path : List ℕ) (place : ℕ) → length (take (length path - place) (drop place path)) ≡ length path - place
rest_length path place = ap length (take_rest path place) ∙ length-drop place path

pub loop-node-preserved : goal.loop-node-preserved
loop-node-preserved c =
    let path = c.args.path.now in
    let place = c.args.place in
    let k = c.loop-node.node-index in
    let rest = rest_length path place in
    let within : place + k < length path = omega arith in
    let is : get_or (take (length path - place) (drop place path)) k 0 ≡ slice_index path (place + k) = ap (λ ys. get_or ys k 0) (take_rest path place) ∙ get_or-drop place path k 0 in
    closed_more c.args.state.now c.loop-node.state path place (place + k) c.args.class c.requires.places c.loop-node.invariant (omega arith) within (get_or (take (length path - place) (drop place path)) k 0) is (place + (k + 1)) (omega arith)

pub returns : goal.returns
returns c =
    closed_all c.args.state.now c.loop-node.state c.args.path.now c.args.place (c.args.place + c.loop-node.node-index) c.args.class c.requires.places c.loop-node.invariant (let rest = rest_length c.args.path.now c.args.place in omega arith)
