use Rattle.std.proofs.Common.{List, All, sym, subst}
use Rattle.rt_lines.specs.declared.label.Label.{Label}
use Rattle.rt_lines.specs.Words.{IsLabel}
use Rattle.rt_sketch.proofs.Occurring.{adds_next, adds_none, adds_whole}
use Rattle.rt_sketch.proofs.letters.enter_word.Goals as goal

pub loop-label-init : goal.loop-label-init
loop-label-init c = adds_none c.items-label-items.result.now c.args.letters.now.keys

pub loop-label-preserved : goal.loop-label-preserved
loop-label-preserved c =
    adds_next c.items-label-items.result.now c.loop-label.label-index _ c.args.letters.now.keys c.loop-label.letters.keys c.insert.new.self.keys
    (subst (λ (xs : List Label). All IsLabel xs) (sym c.items-label-items.ensures.letters) c.items-label-items.ensures.good) c.loop-label-test.true c.loop-label.invariant c.in_ok-insert.ensures.keys

pub returns : goal.returns
returns c = adds_whole c.args.x.now.word c.items-label-items.result.now c.loop-label.label-index c.args.letters.now.keys c.loop-label.letters.keys c.items-label-items.ensures.letters c.loop-label-test.false c.loop-label.invariant
