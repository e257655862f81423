use Rattle.std.proofs.Common.{◌≢◌, ℕ, ◌<◌}
use Rattle.rt_components.specs.declared.walk.State.TheVariants.{Unseen}
use Rattle.rt_components.specs.Inside.Walks.{state_of, IsAtRest}
use Rattle.rt_components.proofs.walk.classes_of.Given as goal

abbrev pub ghost-visit : goal.ghost-visit
ghost-visit a = a.graph.now

abbrev pub invariant-loop-node : goal.invariant-loop-node
invariant-loop-node l = record {
  rest : IsAtRest l.graph l.walk;
  seen : (a : ℕ) → a < l.node → state_of l.walk.state.items a ≢ Unseen;
}
