use Rattle.std.proofs.Common.{List, subst}
use Rattle.std.proofs.lemmas.List.{take_all}
use Rattle.rt_lines.specs.declared.line.Line.{Line}
use Rattle.rt_sketch.specs.Inside.Letters.{AddsLetters, words_of}
use Rattle.rt_sketch.proofs.Occurring.{adds_line, adds_start}
use Rattle.rt_sketch.proofs.letters.enter_lines.Goals as goal

pub loop-line-init : goal.loop-line-init
loop-line-init c = adds_start c.args.letters.now.keys

pub loop-line-preserved : goal.loop-line-preserved
loop-line-preserved c =
    adds_line c.args.lines.now c.loop-line.line-index c.line-item.result c.line-item.result c.args.letters.now.keys c.loop-line.letters.keys c.enter_line.new.letters.keys c.loop-line-test.true c.line-item.is c.loop-line.invariant
    c.in_ok-enter_line.ensures

pub returns : goal.returns
returns c = subst (λ (xs : List Line). AddsLetters (words_of xs) c.args.letters.now.keys c.loop-line.letters.keys) (take_all c.loop-line.line-index c.args.lines.now c.loop-line-test.false) c.loop-line.invariant
