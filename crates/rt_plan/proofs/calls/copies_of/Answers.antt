use Rattle.std.proofs.Common.{◌∙◌}
use Rattle.std.proofs.lemmas.List.{take_all}
use Rattle.rt_plan.proofs.calls.copies_of.Goals as goal

pub returns : goal.returns
returns c = c.loop-called.invariant ∙ take_all c.loop-called.called-index c.args.callees.now c.loop-called-test.false
