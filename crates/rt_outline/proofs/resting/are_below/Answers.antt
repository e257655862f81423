use Rattle.std.proofs.lemmas.List.Elements.{Contains-get_or}
use Rattle.rt_outline.proofs.resting.are_below.Goals as goal

pub returns-then-branch : goal.returns-then-branch
returns-then-branch c = λ e. (_, Contains-get_or c.args.sources.now c.loop-source.source-index _ c.loop-source-test.true, c.in_ok-is_below.ensures.below c.if-branch.true)
