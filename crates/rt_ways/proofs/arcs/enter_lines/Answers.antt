use Rattle.std.proofs.Common.{◌∙◌, sym}
use Rattle.rt_ways.proofs.Hubs.{lines_first, lines_next, lines_whole}
use Rattle.rt_ways.proofs.arcs.enter_lines.Goals as goal

pub loop-line-init : goal.loop-line-init
loop-line-init c = lines_first c.args.named.now c.args.lines.now c.args.arcs.now.items

pub enter_line-requires-clause-sides : goal.enter_line-requires-clause-sides
enter_line-requires-clause-sides c = λ x h. c.requires.sides c.line-item.result x (c.loop-line.line-index, c.loop-line-test.true, sym c.line-item.is) h

pub enter_line-requires-clause-each : goal.enter_line-requires-clause-each
enter_line-requires-clause-each c = c.loop-line.invariant.each ∙ c.requires.each

pub loop-line-preserved : goal.loop-line-preserved
loop-line-preserved c =
    lines_next c.args.named.now c.args.lines.now c.loop-line.line-index c.line-item.result c.line-item.result c.args.arcs.now.items c.loop-line.arcs.items c.enter_line.new.arcs.items c.loop-line-test.true c.line-item.is
    c.loop-line.invariant c.in_ok-enter_line.ensures

pub returns : goal.returns
returns c = lines_whole c.args.named.now c.args.lines.now c.loop-line.line-index c.args.arcs.now.items c.loop-line.arcs.items c.loop-line-test.false c.loop-line.invariant
