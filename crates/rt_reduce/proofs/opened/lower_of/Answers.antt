use Rattle.rt_reduce.proofs.Opening.{all_there, lower_with}
use Rattle.rt_reduce.proofs.opened.lower_of.Goals as goal

pub of-requires : goal.of-requires
of-requires c =
    all_there c.args.lines.now c.args.sides.items c.in_ok-all.all.items c.deref.result.now c.deref.ensures.value c.requires c.in_ok-all.ensures

pub returns : goal.returns
returns c =
    lower_with c.args.lines.now c.args.sides.items c.in_ok-all.all.items c.deref.result.now c.in_ok-lower.lower c.deref.ensures.value
    c.in_ok-all.ensures c.in_ok-lower.ensures
