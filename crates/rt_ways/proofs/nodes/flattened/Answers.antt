use Rattle.std.proofs.Common.{◌++◌, ◌∙◌, List, ap}
use Rattle.std.specs.Prelude.{flat_map}
use Rattle.std.proofs.lemmas.List.{take_all}
use Rattle.rt_lines.specs.declared.line.Line.{Line}
use Rattle.rt_ways.specs.Inside.Frames.{flattened_line}
use Rattle.rt_ways.proofs.Noding.{flat_more}
use Rattle.rt_ways.proofs.nodes.flattened.Goals as goal

pub loop-line-init : goal.loop-line-init
loop-line-init c = c.new-flat.ensures.items

pub loop-line-preserved : goal.loop-line-preserved
loop-line-preserved c =
    c.in_ok-flatten.ensures ∙ ap (λ (xs : List Line). xs ++ flattened_line c.line-item.result) c.loop-line.invariant
    ∙ flat_more c.args.lines.now c.loop-line.line-index c.line-item.result c.line-item.result c.loop-line-test.true c.line-item.is

pub returns : goal.returns
returns c = c.loop-line.invariant ∙ ap (flat_map flattened_line) (take_all c.loop-line.line-index c.args.lines.now c.loop-line-test.false)
