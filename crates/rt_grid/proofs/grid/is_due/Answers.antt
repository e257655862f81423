use Rattle.std.proofs.Common.{length, arith}
use Rattle.rt_grid.proofs.Writing.{read_within}
use Rattle.rt_grid.proofs.grid.is_due.Goals as goal

pub bounds-changed-step : goal.bounds-changed-step
bounds-changed-step c = read_within (length c.args.changed.now) c.args.steps.now c.loop-step.step-index c.requires c.loop-step-test.true

pub offset_bounds-changed-step : goal.offset_bounds-changed-step
offset_bounds-changed-step c =
    let within = read_within (length c.args.changed.now) c.args.steps.now c.loop-step.step-index c.requires c.loop-step-test.true in
    omega arith
