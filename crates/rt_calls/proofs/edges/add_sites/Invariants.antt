use Rattle.std.proofs.Common.{take}
use Rattle.rt_calls.specs.Calls.{AddsEdges, LeadTo}
use Rattle.rt_calls.proofs.edges.add_sites.Given as goal

abbrev pub invariant-loop-site : goal.invariant-loop-site
invariant-loop-site l = AddsEdges l.fn.graph l.graph l.caller (LeadTo (take l.site-index l.sites))
