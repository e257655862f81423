use Rattle.rt_control.proofs.Running.{IsRunTo}
use Rattle.rt_control.proofs.run.run.Given as goal

abbrev pub invariant-loop-place : goal.invariant-loop-place
invariant-loop-place l = IsRunTo l.object l.fn.jump l.place l.steps.items

abbrev pub decreases-loop-place : goal.decreases-loop-place
decreases-loop-place l = l.place.offset
