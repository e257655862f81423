use Rattle.std.proofs.Common.{◌≡◌, ◌<◌, [], ◌∷◌, ◌++◌, length, slice_index, sym, ap, subst, ◌∙◌, arith}
use Rattle.std.proofs.lemmas.List.{get_or_read}
use Rattle.rt_components.specs.Inside.Classes.{AreMembers}
use Rattle.rt_components.proofs.Members.{members_none, members_more}
use Rattle.rt_components.proofs.classes.members_of.Goals as goal

pub loop-node-init : goal.loop-node-init
loop-node-init c = members_none c.args.classes.now.class.items c.args.classes.now.count c.in_ok-members.members.items c.in_ok-members.ensures

pub loop-node-preserved : goal.loop-node-preserved
loop-node-preserved c =
    let class = c.args.classes.now.class.items in
    let members = c.loop-node.members.items in
    let node = c.loop-node.node in
    let k = c.index.result.now in
    let less : node < length class = omega arith in
    let is : k ≡ slice_index class node = get_or_read class node k less c.index.ensures 0 in
    let within : k < c.args.classes.now.count = subst (λ j. j < c.args.classes.now.count) (sym is) (c.requires.classes node 0 less) in
    members_more class c.args.classes.now.count node members c.loop-node.invariant k (sym is) within c.push.new.self (c.in_ok-push.ensures.ok ∙ ap (λ xs. xs ++ node ∷ []) (get_or_read members k c.index_mut.result.now (subst (λ n. k < n) (sym c.loop-node.invariant.each) within) c.index_mut.ensures.value []))

pub returns : goal.returns
returns c = subst (λ n. AreMembers c.args.classes.now.class.items c.args.classes.now.count n c.loop-node.members.items) (omega arith) c.loop-node.invariant
