use Rattle.std.proofs.Common.{◌∙◌}
use Rattle.rt_sketch.specs.Bounds.{IsUp}
use Rattle.rt_sketch.proofs.Bounding.{bounds_all}
use Rattle.rt_sketch.proofs.bounds.ups_of.Goals as goal

pub enter_ups-requires-clause-each : goal.enter_ups-requires-clause-each
enter_ups-requires-clause-each c = c.in_ok-rows.ensures.length ∙ c.len.ensures.count

pub returns : goal.returns
returns c = bounds_all (IsUp c.args.named.now c.args.lines.now) _ c.in_ok-rows.rows.items c.enter_ups.new.rows.items (c.in_ok-rows.ensures.length ∙ c.len.ensures.count) c.in_ok-rows.ensures.empty c.in_ok-enter_ups.ensures
