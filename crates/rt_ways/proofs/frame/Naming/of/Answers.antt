use Rattle.std.proofs.Common.{subst, sym}
use Rattle.rt_ways.specs.Pushes.{AreDistinct}
use Rattle.rt_ways.proofs.Knowing.{distinct_named}
use Rattle.rt_ways.proofs.frame.Naming.of.Goals as goal

pub steps_of-requires : goal.steps_of-requires
steps_of-requires c = subst AreDistinct (sym c.in_ok-named.ensures) (distinct_named c.args.lines.now)

pub returns : goal.returns
returns c = record {
  named = c.in_ok-named.ensures;
  few = c.in_ok-steps.ensures.few;
  distinct = subst AreDistinct (sym c.in_ok-named.ensures) (distinct_named c.args.lines.now);
  steps = c.in_ok-steps.ensures.steps;
}
