use Rattle.std.proofs.Common.{◌≡◌, refl, sym, ap, ◌∙◌}
use Rattle.rt_shape.specs.Graphs.{node_of}
use Rattle.rt_named.specs.Nodes.{flips_at}
use Rattle.rt_outline.proofs.Behind.{added_accesses, added_none}
use Rattle.rt_outline.proofs.accessing.add_accesses.Goals as goal

pub returns-in_ok-push-2 : goal.returns-in_ok-push-2
returns-in_ok-push-2 c =
    let graph = c.args.shape.now in
    let e : c.is_flip.result ≡ flips_at graph (node_of graph c.args.x.now) = c.is_flip.ensures ∙ ap (flips_at graph) c.node.ensures in
    added_accesses graph c.args.x.now c.in_ok-with_letter.field-0 c.in_ok-with_letter-2.field-0 c.args.all.now.items
    c.push.new.self.items c.push-then-is_flip.new.self.items (sym e ∙ c.if-is_flip.true) c.in_ok-with_letter.ensures
    c.in_ok-with_letter-2.ensures c.in_ok-push.ensures.items c.in_ok-push-2.ensures.items

pub returns-else-is_flip : goal.returns-else-is_flip
returns-else-is_flip c = added_none c.args.shape.now c.args.all.now.items c.args.all.now.items refl
