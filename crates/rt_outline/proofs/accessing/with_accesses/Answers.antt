use Rattle.rt_outline.proofs.Behind.{there_behind}
use Rattle.rt_outline.proofs.accessing.with_accesses.Goals as goal

pub returns : goal.returns
returns c =
    there_behind c.args.lines.now c.in_ok-shape.shape c.args.variables.items c.add_lines.new.all.items c.in_ok-shape.ensures c.in_ok-add_lines.ensures
