use Rattle.std.proofs.Common.{arith, ap, ◌∙◌}
use Rattle.std.specs.List.{insert}
use Rattle.rt_tree.specs.Trees.{Node, place_in, longer_node}
use Rattle.rt_tree.proofs.Edges.{place-le, with_edge_at}
use Rattle.rt_tree.proofs.entry.Entry.add.Goals as goal

pub insert-requires : goal.insert-requires
insert-requires c =
    let place = c.place_of-place.ensures in
    let within = place-le c.args.label c.deref.result.now in
    let len = c.deref.ensures.len in
    omega arith

pub returns-clause-ok : goal.returns-clause-ok
returns-clause-ok c =
    let edges = c.self.inside.edges.items in
    let place = c.place_of-place.ensures ∙ ap (place_in c.args.label) c.deref.ensures.value in
    ap (λ es. record { low = c.self.inside.low; up = c.self.inside.up; edges = es })
    (c.in_ok-insert.ensures.items ∙ (ap (λ n. insert edges n (c.args.label, c.args.to)) place ∙ with_edge_at c.args.label c.args.to edges))
    ∙ ap (λ (n : Node). longer_node n c.args.label c.args.to) c.self.view_is
