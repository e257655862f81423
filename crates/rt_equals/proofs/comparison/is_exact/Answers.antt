use Rattle.rt_equals.proofs.comparison.is_exact.Goals as goal

pub returns-then-branch : goal.returns-then-branch
returns-then-branch c = λ yes. c.in_ok-are_apart.ensures c.if-branch.true c.args.lines.now c.requires.named c.requires.outer
