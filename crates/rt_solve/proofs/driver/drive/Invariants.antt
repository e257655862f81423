use Rattle.std.proofs.Common.{◌≡◌}
use Rattle.rt_solve.proofs.Driving.{IsDriving, left}
use Rattle.rt_solve.proofs.driver.drive.Given as goal

abbrev pub invariant-loop-goes_on : goal.invariant-loop-goes_on
invariant-loop-goes_on g l = record {
  number : l.schedule.number ≡ l.initial.schedule.number;
  driving : IsDriving l.initial.run l.run l.initial.schedule.number l.state l.schedule.claims l.initial.steps l.steps l.goes_on;
}

abbrev pub decreases-loop-goes_on : goal.decreases-loop-goes_on
decreases-loop-goes_on g l = left l.run l.goes_on
