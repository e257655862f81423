use Rattle.std.proofs.Common.{◌≡◌, ◌<◌, true, [], length, set, sym, subst, ◌∙◌}
use Rattle.std.proofs.lemmas.List.{get_or_read}
use Rattle.std.proofs.lemmas.Result.{IfOk-weaker}
use Rattle.rt_components.specs.Groups.{group_at}
use Rattle.rt_components.specs.Inside.Orders.{IsQueueOf, left_to_come}
use Rattle.rt_components.proofs.Numbers.{cons_here}
use Rattle.rt_components.proofs.Taking.{taken, within_come, is_to_come, left_falls}
use Rattle.rt_components.proofs.order.Queue.take.Goals as goal

pub index_mut-requires : goal.index_mut-requires
index_mut-requires c =
    let q = c.args.self.now in
    let may = c.requires.may in
    subst (λ n. c.args.class < n) (sym q.come.ok.0) (within_come c.args.successors.now c.args.members.now q.come.items q.order.items q.passed.items q.waiting.items q.ready.keys c.args.class may.queue may.free may.first)

pub settle_all-requires-clause-queue : goal.settle_all-requires-clause-queue
settle_all-requires-clause-queue c =
    let q = c.args.self.now in
    let may = c.requires.may in
    let others = c.args.successors.now in
    let members = c.args.members.now in
    let k = c.args.class in
    let low : k < length others = (may.queue.todo_only k (cons_here k [])).0 in
    let mine : c.items.result.now ≡ group_at q.waiting.items k =
    c.items.ensures ∙ c.replace-waiting.ensures.value ∙ get_or_read q.waiting.items k c.index_mut-2.result.now (subst (λ n. k < n) (sym may.queue.waiting_each) low) c.index_mut-2.ensures.value [] in
    let come = set q.come.items k true in
    let none = c.replace-waiting.new.dest in
    subst (IsQueueOf others members come c.push.new.self.items q.passed.items (set q.waiting.items k none) q.ready.keys) (sym mine)
    (subst (λ xs. IsQueueOf others members come xs q.passed.items (set q.waiting.items k none) q.ready.keys (group_at q.waiting.items k)) (sym c.in_ok-push.ensures.items)
    (taken others members q.come.items q.order.items q.passed.items q.waiting.items q.ready.keys k may.queue may.free may.first none (c.replace-waiting.ensures.after ∙ c.new.ensures)))

pub returns-clause-left : goal.returns-clause-left
returns-clause-left c =
    let q = c.args.self.now in
    let may = c.requires.may in
    let less = within_come c.args.successors.now c.args.members.now q.come.items q.order.items q.passed.items q.waiting.items q.ready.keys c.args.class may.queue may.free may.first in
    let to_come = is_to_come c.args.successors.now c.args.members.now q.come.items q.order.items q.passed.items q.waiting.items q.ready.keys c.args.class may.queue may.free may.first in
    let falls = left_falls q.come.items c.args.class less to_come in
    IfOk-weaker c.settle_all.result _ _ (λ u e. subst (λ xs. left_to_come xs < left_to_come q.come.items) (sym e) falls) c.settle_all.ensures.come
