use Rattle.std.proofs.Common.{◌∙◌, sym}
use Rattle.rt_sketch.proofs.Bounding.{lows_first, lows_next, lows_whole}
use Rattle.rt_sketch.proofs.bounds.enter_lows.Goals as goal

pub loop-line-init : goal.loop-line-init
loop-line-init c = lows_first c.args.named.now c.args.lines.now c.args.rows.now.items

pub enter_low-requires-clause-sides : goal.enter_low-requires-clause-sides
enter_low-requires-clause-sides c = λ x h. c.requires.sides c.line-item.result x (c.loop-line.line-index, c.loop-line-test.true, sym c.line-item.is) h

pub enter_low-requires-clause-each : goal.enter_low-requires-clause-each
enter_low-requires-clause-each c = c.loop-line.invariant.each ∙ c.requires.each

pub loop-line-preserved : goal.loop-line-preserved
loop-line-preserved c =
    lows_next c.args.named.now c.args.lines.now c.loop-line.line-index c.line-item.result c.line-item.result c.args.rows.now.items c.loop-line.rows.items c.enter_low.new.rows.items c.loop-line-test.true c.line-item.is
    c.loop-line.invariant c.in_ok-enter_low.ensures

pub returns : goal.returns
returns c = lows_whole c.args.named.now c.args.lines.now c.loop-line.line-index c.args.rows.now.items c.loop-line.rows.items c.loop-line-test.false c.loop-line.invariant
