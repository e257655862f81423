use Rattle.std.proofs.Common.{◌∙◌, refl}
use Rattle.rt_grid.proofs.Holding.{made_after, made_self}
use Rattle.rt_grid.proofs.grid.Grid.sweep.Goals as goal

pub loop-place-init : goal.loop-place-init
loop-place-init c = record {
  size = refl;
  holds = made_self c.args.self.now;
}

pub loop-place-preserved : goal.loop-place-preserved
loop-place-preserved c = record {
  size = c.in_ok-go_over.ensures.size ∙ c.loop-place.invariant.size;
  holds = made_after c.args.self.now c.loop-place.self c.go_over.new.self c.loop-place.invariant.holds c.in_ok-go_over.ensures.holds;
}

pub loop-behind-preserved : goal.loop-behind-preserved
loop-behind-preserved c = record {
  size = c.in_ok-go_over-2.ensures.size ∙ c.loop-behind.invariant.size;
  holds = made_after c.args.self.now c.loop-behind.self c.go_over-in-loop-behind.new.self c.loop-behind.invariant.holds c.in_ok-go_over-2.ensures.holds;
}
