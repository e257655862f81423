use Rattle.std.proofs.Common.{Bool, List, Option, ℕ, subst}
use Rattle.rt_outline.specs.Built.{HasHubs}
use Rattle.rt_named.specs.Nodes.{AreFlipsOf}
use Rattle.rt_outline.proofs.Inner.{distinct}
use Rattle.rt_outline.proofs.upper.hubbed.Goals as goal

pub with_hubs-requires-clause-distinct : goal.with_hubs-requires-clause-distinct
with_hubs-requires-clause-distinct c = distinct c.args.lines.now c.requires.0 c.args.named.now c.requires.1

pub returns-clause-hubs : goal.returns-clause-hubs
returns-clause-hubs c = record {
  graph = c.in_ok-shape.shape;
  shape = c.in_ok-shape.ensures;
  classes = c.in_ok-classes.classes.items;
  flips = c.in_ok-flips.flips.items;
  classed = c.in_ok-classes.ensures;
  flagged =
      subst (λ (cs : List (Option ℕ)). AreFlipsOf c.in_ok-shape.shape cs c.in_ok-flips.flips.items) c.deref.ensures.value c.in_ok-flips.ensures;
  hubbed =
      subst (λ (cs : List (Option ℕ)). HasHubs c.args.named.now cs c.in_ok-flips.flips.items c.in_ok-frame.frame.origins.items c.in_ok-frame.frame.arcs.items) c.deref-2.ensures.value
      (subst (λ (fs : List Bool). HasHubs c.args.named.now c.deref-2.result.now fs c.in_ok-frame.frame.origins.items c.in_ok-frame.frame.arcs.items) c.deref-3.ensures.value
      c.in_ok-frame.ensures.hubs);
}
