use Rattle.std.proofs.Common.{◌∙◌}
use Rattle.rt_outline.proofs.Closed.{only_next, pointers_next}
use Rattle.rt_outline.proofs.entering.enter_pointers.Goals as goal

pub loop-node-preserved : goal.loop-node-preserved
loop-node-preserved c = record {
  frame = c.in_ok-enter_pointer.ensures.frame;
  origins = c.in_ok-enter_pointer.ensures.origins ∙ c.loop-node.invariant.origins;
  kept = λ v w line h. c.in_ok-enter_pointer.ensures.kept v w line (c.loop-node.invariant.kept v w line h);
  pointers = pointers_next c.loop-node.frame.origins.items c.enter_pointer.new.frame.origins.items c.loop-node.frame.arcs.items c.enter_pointer.new.frame.arcs.items c.loop-node.node c.in_ok-enter_pointer.ensures.origins
      c.in_ok-enter_pointer.ensures.kept c.loop-node.invariant.pointers c.in_ok-enter_pointer.ensures.pointers;
  only = only_next c.args.frame.now.origins.items c.loop-node.frame.origins.items c.args.frame.now.arcs.items c.loop-node.frame.arcs.items c.enter_pointer.new.frame.arcs.items c.loop-node.invariant.origins
      c.loop-node.invariant.only c.in_ok-enter_pointer.ensures.only;
}
