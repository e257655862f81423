use Rattle.std.proofs.Common.{◌∙◌, ◌++◌, ap, arith, flat_map}
use Rattle.rt_sketch.specs.Texts.{edge_text}
use Rattle.rt_sketch.proofs.Printing.{text_more}
use Rattle.rt_sketch.proofs.text.print.Goals as goal

pub loop-number-preserved : goal.loop-number-preserved
loop-number-preserved c =
    text_more c.args.names.now c.args.order.now c.args.tree.now c.loop-number.number c.args.out.now.items c.loop-number.out.items c.push_node.new.out.items c.push_edges.new.out.items
    (omega (arith, c.loop-number-test.true, c.size-number-end.ensures.count, c.loop-number.auto.number-end)) c.loop-number.invariant c.in_ok-push_node.ensures (c.in_ok-push_edges.ensures ∙ ap (λ t. c.push_node.new.out.items ++ t) (ap (flat_map (edge_text c.loop-number.number)) c.edges.ensures))
