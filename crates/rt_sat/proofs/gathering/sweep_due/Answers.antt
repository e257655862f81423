use Rattle.std.proofs.Common.{◌∙◌}
use Rattle.rt_sat.proofs.gathering.sweep_due.Goals as goal

pub sweep_at-requires-clause-family : goal.sweep_at-requires-clause-family
sweep_at-requires-clause-family c = (c.requires.family.0, c.loop-class.invariant.family c.requires.family.0 c.requires.family.1)

pub loop-class-preserved : goal.loop-class-preserved
loop-class-preserved c = record {
  same = c.in_ok-sweep_at.ensures.same ∙ c.loop-class.invariant.same;
  family = λ count is. c.in_ok-sweep_at.ensures.family count (c.loop-class.invariant.family count is);
  told = λ known flips lines before. c.in_ok-sweep_at.ensures.told known flips lines (c.loop-class.invariant.told known flips lines before);
  next = c.in_ok-sweep_at.ensures.next ∙ c.loop-class.invariant.next;
}
