use Rattle.std.proofs.lemmas.Option.{slice_get-get_or}
use Rattle.rt_liveness.specs.Inside.GivesRules.{AreCalleeRules}
use Rattle.rt_liveness.proofs.Adding.{next_item, all_items}
use Rattle.rt_liveness.proofs.gives.add_tails.Goals as goal

pub loop-callee-preserved : goal.loop-callee-preserved
loop-callee-preserved c =
    let tails = c.args.tails.now in
    next_item tails (AreCalleeRules c.args.named.now c.args.procedure) c.args.rules.now c.loop-callee.rules c.add_callee.new.rules c.loop-callee.callee-index _
    (slice_get-get_or tails c.loop-callee.callee-index _ c.loop-callee-test.true) c.loop-callee.invariant c.in_ok-add_callee.ensures

pub returns : goal.returns
returns c = all_items c.args.tails.now (AreCalleeRules c.args.named.now c.args.procedure) c.args.rules.now c.loop-callee.rules c.loop-callee.callee-index c.loop-callee-test.false c.loop-callee.invariant
