use Rattle.std.proofs.Common.{◌≡◌}
use Rattle.rt_flow.specs.Bodies.{IsBody}
use Rattle.rt_flow.proofs.Targeting.{IsTargeting}
use Rattle.rt_flow.proofs.targets.targets.Given as goal

abbrev pub invariant-loop-from : goal.invariant-loop-from
invariant-loop-from l = record {
  items : l.from-items ≡ l.graph.edges;
  good : IsBody l.graph;
  targeting : IsTargeting l.graph l.blocks.block.items l.blocks.firsts.items l.from-index l.targets.items;
}
