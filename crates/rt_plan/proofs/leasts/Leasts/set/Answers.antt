use Rattle.std.proofs.Common.{◌≡◌, ◌+◌, ◌*◌, ◌/◌, ◌<◌, None, length, set, refl, sym, ap, subst, ◌∙◌, arith}
use Rattle.std.proofs.lemmas.List.{get_or_read, length-set}
use Rattle.rt_plan.specs.Inside.Leasts.{IsTreeBut, lesser, node_at}
use Rattle.rt_plan.proofs.Trees.{write_leaf, write_node}
use Rattle.rt_plan.proofs.leasts.Leasts.set.Goals as goal

pub loop-place-init : goal.loop-place-init
loop-place-init c =
    let members = c.self.inside.members.items in
    let tree = c.self.inside.tree.items in
    let k = c.args.number in
    let b = c.args.is_member in
    let less : k < length members = subst (λ n. k < n) (sym (ap length c.self.view_is)) c.requires.within in
    let count : c.len.result ≡ length members = omega (arith, c.len.ensures) in
    let same = length-set members k b in
    record {
      some = omega arith;
      within = omega arith;
      members = refl;
      tree = subst (λ n. IsTreeBut (set members k b) (set tree (n + k) c.leaf_of.result) ((n + k) / 2)) (sym count)
          (subst (λ o. IsTreeBut (set members k b) (set tree (length members + k) o) ((length members + k) / 2)) (sym c.leaf_of.ensures) (write_leaf members tree k b c.self.invariant less));
    }

pub loop-place-preserved : goal.loop-place-preserved
loop-place-preserved c =
    let members = c.loop-place.self-inside.members.items in
    let tree = c.loop-place.self-inside.tree.items in
    let half = c.loop-place.place / 2 in
    let is = c.loop-place.invariant.tree in
    let room = is.room in
    let more = c.loop-place-test.true in
    let below = c.loop-place.invariant.within in
    let left : c.index.result.now ≡ node_at tree (2 * half) = get_or_read tree (2 * half) c.index.result.now (omega arith) c.index.ensures None in
    let right : c.index-in-loop-place.result.now ≡ node_at tree (2 * half + 1) = get_or_read tree (2 * half + 1) c.index-in-loop-place.result.now (omega arith) c.index-in-loop-place.ensures None in
    let value : c.lesser.result ≡ lesser (node_at tree (2 * half)) (node_at tree (2 * half + 1)) = c.lesser.ensures ∙ (ap (λ o. lesser o c.index-in-loop-place.result.now) left ∙ ap (lesser (node_at tree (2 * half))) right) in
    record {
      some = omega arith;
      within = omega arith;
      members = c.loop-place.invariant.members;
      tree = subst (λ o. IsTreeBut members (set tree half o) (half / 2)) (sym value) (write_node members tree half is (omega arith) (omega arith));
    }

pub invariant_of-self : goal.invariant_of-self
invariant_of-self c =
    let place = c.loop-place.place in
    let some = c.loop-place.invariant.some in
    let top : place / 2 ≡ 0 = let test = c.loop-place-test.false in omega arith in
    subst (IsTreeBut c.loop-place.self-inside.members.items c.loop-place.self-inside.tree.items) top c.loop-place.invariant.tree

pub returns : goal.returns
returns c = c.loop-place.invariant.members ∙ ap (λ members. set members c.args.number c.args.is_member) c.self.view_is
