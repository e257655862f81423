use Rattle.rt_outline.proofs.Behind.{added_then}
use Rattle.rt_outline.proofs.accessing.add_fronts.Goals as goal

pub loop-label-preserved : goal.loop-label-preserved
loop-label-preserved c =
    added_then c.args.shape.now c.args.all.now.items c.loop-label.all.items c.add_accesses-in-loop-label.new.all.items c.loop-label.invariant
    c.in_ok-add_accesses-2.ensures
