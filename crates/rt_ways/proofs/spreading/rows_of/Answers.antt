use Rattle.rt_ways.specs.Arcs.{IsInRow}
use Rattle.rt_ways.proofs.Following.{rows_none, rows_more}
use Rattle.rt_ways.proofs.spreading.rows_of.Goals as goal

pub loop-number-init : goal.loop-number-init
loop-number-init c = rows_none (IsInRow c.args.arcs.now) c.new-rows.result.items c.new-rows.ensures.items

pub loop-number-preserved : goal.loop-number-preserved
loop-number-preserved c =
    rows_more (IsInRow c.args.arcs.now) c.loop-number.number c.loop-number.rows.items c.push.new.self.items _ c.in_ok-push.ensures.items c.in_ok-reached.ensures c.loop-number.invariant
