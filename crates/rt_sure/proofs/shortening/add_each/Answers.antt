use Rattle.rt_sure.proofs.shortening.add_each.Goals as goal

pub loop-line-preserved : goal.loop-line-preserved
loop-line-preserved c = record {
  derived = λ order lines is all. c.in_ok-add.ensures.derived order lines is (c.loop-line.invariant.derived order lines is all);
  unbounded = λ count all. c.in_ok-add.ensures.unbounded count (c.loop-line.invariant.unbounded count all);
}
