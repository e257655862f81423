use Rattle.rt_outline.proofs.Rested.{rests_pointer}
use Rattle.rt_outline.proofs.resting.is_access.Goals as goal

pub returns : goal.returns
returns c = λ e.
    rests_pointer c.args.ground.now.named.now c.args.ground.now.arcs.now c.args.ground.now.stands.now c.args.from c.args.to
    (c.is_pointer.ensures c.if-not-is_pointer.false) (c.is_side.ensures c.if-not-is_side.false) (c.is_side-2.ensures e)
