use Rattle.std.proofs.Common.{length, refl, ◌∙◌}
use Rattle.rt_sat.proofs.building.built.Goals as goal

pub loop-class-init : goal.loop-class-init
loop-class-init c = record {
  same = refl;
  family = c.in_ok-enter_lines.ensures.family (length c.args.nodes.now) c.in_ok-family.ensures.family;
  walked = c.in_ok-enter_lines.ensures.walked c.args.edges.now (λ e h. h) (c.in_ok-family.ensures.walked c.args.edges.now);
}

pub loop-class-preserved : goal.loop-class-preserved
loop-class-preserved c = record {
  same = c.in_ok-close.ensures.same ∙ c.loop-class.invariant.same;
  family = c.in_ok-close.ensures.family (length c.args.nodes.now) c.loop-class.invariant.family;
  walked = c.in_ok-close.ensures.walked c.args.edges.now c.loop-class.invariant.walked;
}
