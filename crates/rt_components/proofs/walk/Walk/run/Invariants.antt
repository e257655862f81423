use Rattle.rt_components.specs.Inside.Walks.{IsWalk, KeepsSeen, work}
use Rattle.rt_components.proofs.walk.Walk.run.Given as goal

abbrev pub ghost-step : goal.ghost-step
ghost-step a = a.graph.now

abbrev pub invariant-loop-place : goal.invariant-loop-place
invariant-loop-place l = record {
  walk : IsWalk l.graph l.self;
  seen : KeepsSeen l.fn.self l.self;
}

abbrev pub decreases-loop-place : goal.decreases-loop-place
decreases-loop-place l = work l.graph l.self
