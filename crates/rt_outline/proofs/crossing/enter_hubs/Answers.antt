use Rattle.rt_outline.proofs.Gathered.{grown_more}
use Rattle.rt_outline.proofs.crossing.enter_hubs.Goals as goal

pub loop-hub-preserved : goal.loop-hub-preserved
loop-hub-preserved c = record {
  frame = c.in_ok-enter_hub.ensures.frame;
  more = grown_more c.args.frame.now.origins.items c.loop-hub.frame.origins.items c.enter_hub.new.frame.origins.items c.args.frame.now.arcs.items c.loop-hub.frame.arcs.items c.enter_hub.new.frame.arcs.items
      c.loop-hub.invariant.more c.in_ok-enter_hub.ensures.more;
  pointers = c.in_ok-enter_hub.ensures.pointers;
}
