use Rattle.std.proofs.Common.{sym, subst}
use Rattle.rt_ways.specs.Inside.Frames.{IsFrameOf, frame_of}
use Rattle.rt_ways.proofs.frame.Frame.of.Goals as goal

pub of-requires-2 : goal.of-requires-2
of-requires-2 c = c.in_ok-naming.ensures.named

pub of-requires-3 : goal.of-requires-3
of-requires-3 c = c.in_ok-naming.ensures.named

pub returns : goal.returns
returns c = subst (IsFrameOf c.args.lines.now) (sym c.joined.ensures) (record {
  named = c.in_ok-naming.ensures.named;
  few = c.in_ok-naming.ensures.few;
  distinct = c.in_ok-naming.ensures.distinct;
  steps = c.in_ok-naming.ensures.steps;
  shape = c.in_ok-shaping.ensures.shape;
  nodes = c.in_ok-shaping.ensures.nodes;
  classes = c.in_ok-classing.ensures.classes;
  behind = c.in_ok-classing.ensures.behind;
})
