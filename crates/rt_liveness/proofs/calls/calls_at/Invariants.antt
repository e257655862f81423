use Rattle.rt_body.specs.Told.{reading_of}
use Rattle.rt_liveness.specs.Inside.Found.{ArePaired, IsCallFound}
use Rattle.rt_liveness.specs.Programs.{callees_of}
use Rattle.rt_liveness.proofs.calls.calls_at.Given as goal

abbrev pub invariant-loop-callee : goal.invariant-loop-callee
invariant-loop-callee l =
    ArePaired (λ k callee call. IsCallFound l.interface l.procedure.sites.now (reading_of l.procedure.body.now).reaching l.number l.is_plain callee call) (callees_of l.site) l.callee-index l.calls
