use Rattle.std.proofs.Common.{◌∙◌}
use Rattle.rt_sketch.specs.Bounds.{IsLow}
use Rattle.rt_sketch.proofs.Bounding.{bounds_all}
use Rattle.rt_sketch.proofs.bounds.lows_of.Goals as goal

pub enter_lows-requires-clause-each : goal.enter_lows-requires-clause-each
enter_lows-requires-clause-each c = c.in_ok-rows.ensures.length ∙ c.len.ensures.count

pub returns : goal.returns
returns c = bounds_all (IsLow c.args.named.now c.args.lines.now) _ c.in_ok-rows.rows.items c.enter_lows.new.rows.items (c.in_ok-rows.ensures.length ∙ c.len.ensures.count) c.in_ok-rows.ensures.empty c.in_ok-enter_lows.ensures
