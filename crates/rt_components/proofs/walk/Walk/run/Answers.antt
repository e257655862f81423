use Rattle.rt_components.proofs.Stepping.{path_empty}
use Rattle.rt_components.proofs.walk.Walk.run.Goals as goal

pub returns-clause-rest : goal.returns-clause-rest
returns-clause-rest c = record {
  is_walk = c.loop-place.invariant.walk;
  empty = path_empty c.args.graph.now c.loop-place.self c.loop-place.invariant.walk (cc);
}
