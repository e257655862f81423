use Rattle.std.proofs.Common.{map, ◌∙◌, arith}
use Rattle.rt_sketch.proofs.Entering.{entered_all, entered_start}
use Rattle.rt_sketch.proofs.rows.Rows.of.Goals as goal

pub loop-i-init : goal.loop-i-init
loop-i-init c = entered_start (λ r. r.keys) c.in_ok-rows.rows.items c.in_ok-rows.ensures.empty c.args.shape.now c.args.letters.now.keys (c.in_ok-rows.ensures.size ∙ c.node_count.ensures)

pub returns : goal.returns
returns c =
    entered_all c.args.shape.now c.args.letters.now.keys c.loop-i.i (map (λ r. r.keys) c.loop-i.rows.items) (let most = c.loop-i-test.false in let end = c.edge_count-i-end.ensures in omega arith) c.loop-i.invariant
