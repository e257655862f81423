use Rattle.std.proofs.Common.{◌≡◌, ◌<◌, [], length, slice_index, sym, subst, arith}
use Rattle.std.proofs.lemmas.List.{get_or_read}
use Rattle.rt_components.specs.Groups.{group_at}
use Rattle.rt_components.specs.Inside.Classes.{AddsOthers}
use Rattle.rt_components.proofs.Members.{successors_more}
use Rattle.rt_components.proofs.classes.successors_of.Goals as goal

pub loop-node-preserved : goal.loop-node-preserved
loop-node-preserved c =
    let class = c.args.classes.now.class.items in
    let others = c.loop-node.successors.items in
    let node = c.loop-node.node in
    let k = c.index-class.result.now in
    let less : node < length class = omega arith in
    let is : k ≡ slice_index class node = get_or_read class node k less c.index-class.ensures 0 in
    let within : k < c.args.classes.now.count = subst (λ j. j < c.args.classes.now.count) (sym is) (c.requires.classes node 0 less) in
    successors_more c.args.graph.now class c.args.classes.now.count node others c.loop-node.invariant k (sym is) within c.add_successors.new.successors
    (subst (λ xs. AddsOthers class k xs (group_at others k) c.add_successors.new.successors) c.successors-nodes.ensures.value
    (subst (λ xs. AddsOthers class k c.successors-nodes.result.now xs c.add_successors.new.successors)
    (get_or_read others k c.index_mut.result.now (subst (λ n. k < n) (sym c.loop-node.invariant.each) within) c.index_mut.ensures.value []) c.in_ok-add_successors.ensures))
