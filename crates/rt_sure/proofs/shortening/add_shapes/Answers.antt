use Rattle.std.proofs.lemmas.Result.{on_ok_weaker}
use Rattle.rt_sure.proofs.shortening.add_shapes.Goals as goal

pub returns-clause-derived : goal.returns-clause-derived
returns-clause-derived c = on_ok_weaker c.add_each.result (λ derived order all. derived order c.args.lines.now c.in_ok-shape.ensures all) c.add_each.ensures.derived
