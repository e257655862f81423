use Rattle.rt_body.specs.Told.{reading_of}
use Rattle.rt_liveness.specs.Inside.Found.{ArePaired, IsSiteFound}
use Rattle.rt_liveness.proofs.calls.calls_in.Given as goal

abbrev pub invariant-loop-number : goal.invariant-loop-number
invariant-loop-number l = ArePaired (IsSiteFound l.object l.interface l.procedure.sites.now (reading_of l.procedure.body.now).reaching) l.procedure.sites.now l.number l.calls
