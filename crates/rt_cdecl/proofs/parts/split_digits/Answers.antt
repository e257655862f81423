use Rattle.rt_cdecl.proofs.Clear.{AreDigits-take_more}
use Rattle.rt_cdecl.proofs.parts.split_digits.Goals as goal

pub loop-k-preserved : goal.loop-k-preserved
loop-k-preserved c = AreDigits-take_more _ _ _ c.loop-k-test.true c.if-here-lt48.false c.if-here-gt57.false c.loop-k.invariant
