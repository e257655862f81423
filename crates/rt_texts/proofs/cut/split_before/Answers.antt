use Rattle.rt_texts.proofs.Cuts.{HasNo-take_more}
use Rattle.rt_texts.proofs.cut.split_before.Goals as goal

pub loop-k-preserved : goal.loop-k-preserved
loop-k-preserved c = HasNo-take_more _ _ _ _ c.loop-k-test.true c.if-here-byte.false c.loop-k.invariant
