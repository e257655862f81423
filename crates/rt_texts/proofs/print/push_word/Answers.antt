use Rattle.rt_texts.proofs.WordTexts.{word_text-step}
use Rattle.rt_texts.proofs.print.push_word.Goals as goal

pub loop-label-preserved : goal.loop-label-preserved
loop-label-preserved c =
    word_text-step _ _ _ _ _ _ _ c.in_ok-print_label.ensures c.in_ok-push.ensures.items c.loop-label.invariant c.loop-label-test.true
