use Rattle.rt_liveness.specs.Inside.Found.{ArePaired, IsProcFound}
use Rattle.rt_liveness.proofs.calls.all_calls.Given as goal

abbrev pub invariant-loop-number : goal.invariant-loop-number
invariant-loop-number l = ArePaired (IsProcFound l.object l.interface l.procs l.bodies) l.procs l.number l.calls
