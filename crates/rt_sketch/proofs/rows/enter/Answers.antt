use Rattle.rt_sketch.proofs.Entering.{row_entered}
use Rattle.rt_sketch.proofs.rows.enter.Goals as goal

pub returns : goal.returns
returns c =
    row_entered (λ r. r.keys) c.args.rows.now.items c.args.node c.index_mut.result.now c.insert.new.self c.args.label c.requires c.index_mut.ensures.value c.in_ok-insert.ensures.keys
