use Rattle.rt_outline.proofs.Behind.{added_then}
use Rattle.rt_outline.proofs.accessing.add_both.Goals as goal

pub returns : goal.returns
returns c =
    added_then c.args.shape.now c.args.all.now.items c.add_fronts.new.all.items c.add_fronts-2.new.all.items
    c.in_ok-add_fronts.ensures c.in_ok-add_fronts-2.ensures
