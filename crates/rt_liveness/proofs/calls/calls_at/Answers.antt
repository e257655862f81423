use Rattle.std.proofs.Common.{◌∙◌}
use Rattle.rt_body.specs.Told.{reading_of}
use Rattle.rt_liveness.specs.Inside.Found.{IsCallFound}
use Rattle.rt_liveness.specs.Programs.{callees_of}
use Rattle.rt_liveness.proofs.Pairing.{next_listed}
use Rattle.rt_liveness.proofs.calls.calls_at.Goals as goal

pub loop-callee-preserved : goal.loop-callee-preserved
loop-callee-preserved c =
    let p = c.args.procedure.now in
    next_listed (λ k callee call. IsCallFound c.args.interface.now p.sites.now (reading_of p.body.now).reaching c.args.number c.args.is_plain callee call) (callees_of c.args.site.now) c.items-callee-items.result.now (c.items-callee-items.ensures ∙ c.in_ok-callees.ensures)
    c.loop-callee.callee-index _ c.loop-callee-test.true c.loop-callee.calls c.push.new.self c.call_at.result c.in_ok-push.ensures.ok c.loop-callee.invariant c.call_at.ensures
