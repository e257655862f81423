use Rattle.std.proofs.Common.{◌∙◌}
use Rattle.rt_sat.proofs.filling.close_all.Goals as goal

pub close-requires-clause-family : goal.close-requires-clause-family
close-requires-clause-family c = (c.requires.0, c.loop-class.invariant.family c.requires.0 c.requires.1)

pub loop-class-preserved : goal.loop-class-preserved
loop-class-preserved c = record {
  same = c.in_ok-close.ensures.same ∙ c.loop-class.invariant.same;
  family = λ count before. c.in_ok-close.ensures.family count (c.loop-class.invariant.family count before);
}
