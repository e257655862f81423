use Rattle.std.proofs.Common.{◌≡◌, ◌<◌, length, slice_index, slice_index_or, map, sym, ap, subst, ◌∙◌, arith}
use Rattle.std.proofs.lemmas.List.{get_or_default}
use Rattle.std.proofs.lemmas.Result.{IfOk-weaker}
use Rattle.rt_components.specs.Graphs.{HasEdge}
use Rattle.rt_components.specs.Groups.{AreGroups, group_at}
use Rattle.rt_components.specs.Inside.Orders.{AreLinked, AreAllInOrder}
use Rattle.rt_components.proofs.Arranging.{are_linked, are_groups}
use Rattle.rt_components.proofs.groups.Goals as goal

pub successors_of-requires-clause-classes : goal.successors_of-requires-clause-classes
successors_of-requires-clause-classes c = λ k d less.
    let classes = c.in_ok-classes.ensures.classes in
    let class = c.in_ok-classes.classes.class.items in
    let same = get_or_default class k d 0 less in
    let low : slice_index class k < c.in_ok-classes.classes.count = classes.within k (subst (λ n. k < n) classes.each less) in
    omega arith

pub order_of-requires : goal.order_of-requires
order_of-requires c =
    let class = c.in_ok-classes.classes.class.items in
    let members = c.in_ok-members.members.items in
    let others = c.in_ok-successors.successors.items in
    subst (λ xs. AreLinked class xs c.deref-2.result.now) (sym c.deref.ensures.value) (subst (AreLinked class members) (sym c.deref-2.ensures.value)
    (are_linked c.args.graph.now class c.in_ok-classes.classes.count members others c.in_ok-classes.ensures.classes c.in_ok-members.ensures c.in_ok-successors.ensures))

pub arranged-requires : goal.arranged-requires
arranged-requires c = λ k d less.
    let class = c.in_ok-classes.classes.class.items in
    let members = c.in_ok-members.members.items in
    let others = c.in_ok-successors.successors.items in
    let order = c.in_ok-order.order.items in
    let ordered : AreAllInOrder others members order = subst (λ xs. AreAllInOrder others xs order) c.deref.ensures.value (subst (λ xs. AreAllInOrder xs c.deref.result.now order) c.deref-2.ensures.value c.in_ok-order.ensures) in
    let within : k < length order = subst (λ xs. k < length xs) c.deref-4.ensures.value less in
    let at : slice_index_or c.deref-4.result.now k d ≡ slice_index order k = get_or_default c.deref-4.result.now k d 0 less ∙ ap (λ xs. slice_index xs k) c.deref-4.ensures.value in
    let low : slice_index order k < length others = ordered.in_order.within k within in
    let each : length members ≡ length others = (are_linked c.args.graph.now class c.in_ok-classes.classes.count members others c.in_ok-classes.ensures.classes c.in_ok-members.ensures c.in_ok-successors.ensures).each in
    let same : length c.deref-3.result.now ≡ length members = ap length c.deref-3.ensures.value in
    omega arith

pub returns : goal.returns
returns c =
    let graph = c.args.graph.now in
    let class = c.in_ok-classes.classes.class.items in
    let members = c.in_ok-members.members.items in
    let others = c.in_ok-successors.successors.items in
    let order = c.in_ok-order.order.items in
    let ordered : AreAllInOrder others members order = subst (λ xs. AreAllInOrder others xs order) c.deref.ensures.value (subst (λ xs. AreAllInOrder xs c.deref.result.now order) c.deref-2.ensures.value c.in_ok-order.ensures) in
    let groups = are_groups graph class c.in_ok-classes.classes.count members others c.in_ok-classes.ensures.classes c.in_ok-members.ensures c.in_ok-successors.ensures order ordered in
    IfOk-weaker c.arranged.result _ _
    (λ found e. subst (AreGroups (length graph) (HasEdge graph)) (sym (e ∙ ap (λ xs. map (group_at xs) c.deref-4.result.now) c.deref-3.ensures.value ∙ ap (map (group_at members)) c.deref-4.ensures.value)) groups) c.arranged.ensures
