use Rattle.std.proofs.Common.{length, subst}
use Rattle.rt_sat.specs.Hints.{IsFamily}
use Rattle.rt_sat.proofs.filling.filled.Goals as goal

pub loop-class-init : goal.loop-class-init
loop-class-init c = record { family = subst (λ nodes. IsFamily (length nodes) c.in_ok-family.family) c.deref.ensures.value c.in_ok-family.ensures.family }

pub copy_class-requires-clause-family : goal.copy_class-requires-clause-family
copy_class-requires-clause-family c = (length c.args.frame.now.nodes.items, c.loop-class.invariant.family)

pub loop-class-preserved : goal.loop-class-preserved
loop-class-preserved c = record { family = c.in_ok-copy_class.ensures.family (length c.args.frame.now.nodes.items) c.loop-class.invariant.family }

pub enter_outer-requires-clause-family : goal.enter_outer-requires-clause-family
enter_outer-requires-clause-family c = (length c.args.frame.now.nodes.items, c.loop-edge.invariant.family)

pub loop-edge-preserved : goal.loop-edge-preserved
loop-edge-preserved c = record { family = c.in_ok-enter_outer.ensures.family (length c.args.frame.now.nodes.items) c.loop-edge.invariant.family }

pub close_all-requires : goal.close_all-requires
close_all-requires c = (length c.args.frame.now.nodes.items, c.loop-edge.invariant.family)

pub loop-class-2-init : goal.loop-class-2-init
loop-class-2-init c = record { family = c.in_ok-close_all.ensures.family (length c.args.frame.now.nodes.items) c.loop-edge.invariant.family }

pub turn_class-requires-clause-family : goal.turn_class-requires-clause-family
turn_class-requires-clause-family c = (length c.args.frame.now.nodes.items, c.loop-class-2.invariant.family)

pub loop-class-2-preserved : goal.loop-class-2-preserved
loop-class-2-preserved c = record { family = c.in_ok-turn_class.ensures.family (length c.args.frame.now.nodes.items) c.loop-class-2.invariant.family }

pub close_all-requires-2 : goal.close_all-requires-2
close_all-requires-2 c = (length c.args.frame.now.nodes.items, c.loop-class-2.invariant.family)

pub returns : goal.returns
returns c = c.in_ok-close_all-2.ensures.family (length c.args.frame.now.nodes.items) c.loop-class-2.invariant.family
