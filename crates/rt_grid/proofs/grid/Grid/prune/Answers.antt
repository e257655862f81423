use Rattle.std.proofs.Common.{◌∙◌}
use Rattle.rt_grid.specs.Tables.{Says}
use Rattle.rt_grid.proofs.Holding.{prune_holds}
use Rattle.rt_grid.proofs.grid.Grid.prune.Goals as goal

pub loop-place-preserved : goal.loop-place-preserved
loop-place-preserved c = record {
  size = c.in_ok-prune_at.ensures.size ∙ c.loop-place.invariant.size;
  holds = prune_holds (Says c.args.self.now) c.loop-place.self c.prune_at.new.self c.loop-place.invariant.holds c.in_ok-prune_at.ensures.holds;
}
