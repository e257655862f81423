use Rattle.std.proofs.Common.{◌≡◌, ◌<◌, ◌⊎◌, inl, inr, Result, Ok, Err, OnOk, OnErr, None, length, sym, subst}
use Rattle.std.proofs.lemmas.List.{get_or_read}
use Rattle.rt_tree.specs.Trees.{leaf, Nodes, node_at, longer_node, step_of}
use Rattle.rt_tree.proofs.Reaching.{edge_or_same}
use Rattle.rt_tree.proofs.tree.Tree.edge.Goals as goal

ok_or_err : {X E : Type 0} (r : Result X E) (P Q : Type 0) → OnOk r P → OnErr r Q → P ⊎ Q
ok_or_err (Ok x) P Q p q = inl p
ok_or_err (Err e) P Q p q = inr q

pub invariant_of-self : goal.invariant_of-self
invariant_of-self c =
    let tree = c.self.inside.nodes.items in
    let l = c.args.label.now in
    let now = c.add.new.self in
    let from : c.args.from < length tree = subst (λ (t : Nodes). c.args.from < length t) (sym c.self.view_is) c.requires.from in
    let to : c.args.to < length tree = subst (λ (t : Nodes). c.args.to < length t) (sym c.self.view_is) c.requires.to in
    let free : step_of tree c.args.from l ≡ None = subst (λ (t : Nodes). step_of t c.args.from l ≡ None) (sym c.self.view_is) c.requires.free in
    let was : c.index_mut.result.now ≡ node_at tree c.args.from = get_or_read tree c.args.from c.index_mut.result.now from c.index_mut.ensures.value (leaf 0 0) in
    edge_or_same tree c.args.from l c.args.to now c.self.invariant from c.requires.label to free
    (ok_or_err c.add.result (now ≡ longer_node (node_at tree c.args.from) l c.args.to) (now ≡ node_at tree c.args.from)
    (subst (λ n. OnOk c.add.result (now ≡ longer_node n l c.args.to)) was c.add.ensures.ok) (subst (λ n. OnErr c.add.result (now ≡ n)) was c.add.ensures.err))
