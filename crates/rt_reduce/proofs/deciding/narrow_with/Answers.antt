use Rattle.rt_reduce.proofs.Anew.{upper_found}
use Rattle.rt_reduce.proofs.deciding.narrow_with.Goals as goal

pub returns : goal.returns
returns c =
    upper_found c.args.lines.now c.args.line.now c.new-sides.result.items c.push_sides.new.sides.items c.deref.result.now c.in_ok-outer.outer
    c.new-sides.ensures.items c.in_ok-push_sides.ensures c.deref.ensures.value c.in_ok-outer.ensures
