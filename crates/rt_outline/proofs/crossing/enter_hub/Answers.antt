use Rattle.std.proofs.Common.{sym, subst}
use Rattle.rt_outline.specs.Frames.{HavePointers}
use Rattle.rt_outline.proofs.Built.{pointers_kept}
use Rattle.rt_outline.proofs.Crossed.{node_kept}
use Rattle.rt_outline.proofs.Gathered.{grown_more}
use Rattle.rt_outline.proofs.crossing.enter_hub.Goals as goal

pub loop-member-preserved : goal.loop-member-preserved
loop-member-preserved c = record {
  frame = c.in_ok-join.ensures.frame;
  more = grown_more c.args.frame.now.origins.items c.loop-member.frame.origins.items c.join.new.frame.origins.items c.args.frame.now.arcs.items c.loop-member.frame.arcs.items c.join.new.frame.arcs.items
      c.loop-member.invariant.more c.in_ok-join.ensures.more;
  pointers = subst (λ os. HavePointers os c.join.new.frame.arcs.items) (sym c.in_ok-join.ensures.origins)
      (pointers_kept c.loop-member.frame.origins.items c.loop-member.frame.arcs.items c.join.new.frame.arcs.items c.in_ok-join.ensures.more.kept c.loop-member.invariant.pointers);
  hub = node_kept c.loop-member.frame.origins.items c.join.new.frame.origins.items c.loop-member.frame.arcs.items c.join.new.frame.arcs.items c.in_ok-join.ensures.more c.in_ok-node.node c.loop-member.invariant.hub;
}
