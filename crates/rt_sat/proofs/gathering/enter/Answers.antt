use Rattle.std.proofs.Common.{◌∙◌, refl}
use Rattle.rt_sat.proofs.ToldPushes.{entered_after, entered_none}
use Rattle.rt_sat.proofs.gathering.enter.Goals as goal

pub loop-level-init : goal.loop-level-init
loop-level-init c = record { size = refl; holds = entered_none c.args.from c.args.found.now c.args.grid.now }

pub loop-level-preserved : goal.loop-level-preserved
loop-level-preserved c = record {
  size = c.in_ok-enter_level.ensures.size ∙ c.loop-level.invariant.size;
  holds = entered_after c.args.from c.args.found.now c.args.grid.now c.loop-level.grid c.enter_level.new.grid c.loop-level.invariant.holds c.in_ok-enter_level.ensures.holds;
}
