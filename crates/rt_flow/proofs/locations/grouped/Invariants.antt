use Rattle.std.proofs.Common.{◌≡◌}
use Rattle.rt_flow.proofs.Grouping.{AreGrouped}
use Rattle.rt_flow.proofs.locations.grouped.Given as goal

abbrev pub invariant-loop-site : goal.invariant-loop-site
invariant-loop-site l = record {
  items : l.site-items ≡ l.graph.defs;
  grouped : AreGrouped l.graph l.site-index l.groups.entries;
}
