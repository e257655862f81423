use Rattle.std.proofs.Common.{◌∙◌, refl}
use Rattle.rt_grid.proofs.Holding.{made_after, made_self}
use Rattle.rt_grid.proofs.grid.Grid.close.Goals as goal

pub loop-init : goal.loop-init
loop-init c = record {
  size = refl;
  holds = made_self c.args.self.now;
}

pub loop-preserved : goal.loop-preserved
loop-preserved c = record {
  size = c.in_ok-sweep.ensures.size ∙ c.loop.invariant.size;
  holds = made_after c.args.self.now c.loop.self c.sweep.new.self c.loop.invariant.holds c.in_ok-sweep.ensures.holds;
}

pub returns-then-not-branch-clause-holds : goal.returns-then-not-branch-clause-holds
returns-then-not-branch-clause-holds c = made_after c.args.self.now c.loop.self c.sweep.new.self c.loop.invariant.holds c.in_ok-sweep.ensures.holds
