use Rattle.std.proofs.Common.{refl}
use Rattle.rt_outline.proofs.Behind.{added_none, added_then}
use Rattle.rt_outline.proofs.accessing.add_lines.Goals as goal

pub loop-line-init : goal.loop-line-init
loop-line-init c = added_none c.args.shape.now c.args.all.now.items c.args.all.now.items refl

pub loop-line-preserved : goal.loop-line-preserved
loop-line-preserved c =
    added_then c.args.shape.now c.args.all.now.items c.loop-line.all.items c.add_line.new.all.items c.loop-line.invariant c.in_ok-add_line.ensures
