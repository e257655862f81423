use Rattle.std.proofs.Common.{◌≡◌, ◌<◌, ◌+◌, ◌^◌, ◌∷◌, ◌++◌, [], None, length, set, sym, ap, subst, ◌∙◌, arith, rules, length-append}
use Rattle.std.proofs.lemmas.List.{get_or_read}
use Rattle.rt_tree.specs.Trees.{leaf, Nodes, Node, node_at, longer_node, step_of, joined, IsReachedTree}
use Rattle.rt_tree.proofs.Reaching.{grown_tree, popped}
use Rattle.rt_tree.proofs.tree.Tree.grow.Goals as goal

pub invariant_of-self-in-Ok : goal.invariant_of-self-in-Ok
invariant_of-self-in-Ok c =
    let tree = c.self.inside.nodes.items in
    let l = c.args.label.now in
    let new = leaf c.args.low c.args.up in
    let items : c.push.new.self.items ≡ tree ++ new ∷ [] = c.in_ok-push.ensures.items ∙ ap (λ (n : Node). tree ++ n ∷ []) c.new.ensures in
    let room : length tree + 1 < 2 ^ 32 = let h = c.if-number.false in let n = c.size-number.ensures.count in let v = ap length c.self.view_is in let m = c.self.invariant.whole.numbered in omega arith in
    let from : c.args.from < length tree = subst (λ (t : Nodes). c.args.from < length t) (sym c.self.view_is) c.requires.from in
    let free : step_of tree c.args.from l ≡ None = subst (λ (t : Nodes). step_of t c.args.from l ≡ None) (sym c.self.view_is) c.requires.free in
    let inside : c.args.from < length c.push.new.self.items = let e = ap length items in let more = length-append tree (new ∷ []) in let v = ap length c.self.view_is in let h = c.requires.from in omega arith in
    let was : c.index_mut.result.now ≡ node_at c.push.new.self.items c.args.from = get_or_read c.push.new.self.items c.args.from c.index_mut.result.now inside c.index_mut.ensures.value (leaf 0 0) in
    let number : c.size-number.result ≡ length tree = c.size-number.ensures.count ∙ sym (ap length c.self.view_is) in
    let now : c.add.new.self ≡ longer_node (node_at c.push.new.self.items c.args.from) l (length tree) = c.in-Ok.ensures.ok ∙ (ap (λ (n : Node). longer_node n l c.size-number.result) was ∙ ap (longer_node (node_at c.push.new.self.items c.args.from) l) number) in
    let whole : set c.push.new.self.items c.args.from c.add.new.self ≡ joined (tree ++ new ∷ []) c.args.from l (length tree) = ap (set c.push.new.self.items c.args.from) now ∙ ap (λ (t : Nodes). joined t c.args.from l (length tree)) items in
    subst IsReachedTree (sym whole) (grown_tree tree c.args.from l c.args.low c.args.up c.self.invariant room from c.requires.label free)

pub invariant_of-self-in-Err : goal.invariant_of-self-in-Err
invariant_of-self-in-Err c =
    let tree = c.self.inside.nodes.items in
    let new = leaf c.args.low c.args.up in
    let items : c.push.new.self.items ≡ tree ++ new ∷ [] = c.in_ok-push.ensures.items ∙ ap (λ (n : Node). tree ++ n ∷ []) c.new.ensures in
    let inside : c.args.from < length c.push.new.self.items = let e = ap length items in let more = length-append tree (new ∷ []) in let v = ap length c.self.view_is in let h = c.requires.from in omega arith in
    let was : c.index_mut.result.now ≡ node_at c.push.new.self.items c.args.from = get_or_read c.push.new.self.items c.args.from c.index_mut.result.now inside c.index_mut.ensures.value (leaf 0 0) in
    subst IsReachedTree (sym (popped tree c.push.new.self.items c.pop.new.self.items new c.add.new.self c.args.from _ items (c.in-Err.ensures.err ∙ was) (search rules) c.pop.ensures.rest)) c.self.invariant
