use Rattle.std.proofs.Common.{◌≡◌}
use Rattle.rt_flow.proofs.Classing.{IsClassing}
use Rattle.rt_flow.proofs.locations.classes.Given as goal

abbrev pub invariant-loop-site : goal.invariant-loop-site
invariant-loop-site l = record {
  items : l._site-items ≡ l.graph.defs;
  classing : IsClassing l.graph l._site-index l.known.entries l.none l.classes;
}
