use Rattle.rt_lines.proofs.Signs.{variance_of_word-step}
use Rattle.rt_lines.proofs.word.variance_of.Goals as goal

pub loop-label-preserved : goal.loop-label-preserved
loop-label-preserved c =
    rw c.times-variance.ensures (variance_of_word-step _ _ _ _ _ c.variance.ensures c.loop-label.invariant c.loop-label-test.true)
