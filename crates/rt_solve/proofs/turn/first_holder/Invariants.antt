use Rattle.std.proofs.Common.{◌≡◌, ◌<◌, ℕ, None}
use Rattle.rt_plan.specs.Plans.{held_by}
use Rattle.rt_solve.proofs.turn.first_holder.Given as goal

abbrev pub invariant-loop-worker : goal.invariant-loop-worker
invariant-loop-worker l = (v : ℕ) → v < l.worker → held_by l.run.stage.board v ≡ None
