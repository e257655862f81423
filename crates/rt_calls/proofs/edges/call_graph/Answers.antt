use Rattle.std.proofs.Common.{◌≡◌, ◌<◌, Some, length, sym, ap, subst, arith}
use Rattle.std.specs.Prelude.{slice_get}
use Rattle.std.proofs.lemmas.Option.{slice_get_read}
use Rattle.rt_calls.specs.Calls.{AddsEdges, LeadTo}
use Rattle.rt_calls.proofs.Adding.{graph_more, graph_all}
use Rattle.rt_calls.proofs.edges.call_graph.Goals as goal

pub loop-caller-preserved : goal.loop-caller-preserved
loop-caller-preserved c =
    let procs = c.args.procs.now in
    let proc = c.index-items-caller.result in
    let caller = c.loop-caller.caller in
    let old = c.loop-caller.graph in
    let new = c.add_sites.new.graph in
    let len : length c.items.result.now ≡ length procs = ap length c.items.ensures in
    let less : caller < length procs = omega (arith, c.in-Ok.ensures) in
    let at : slice_get procs caller ≡ Some proc = subst (λ xs. slice_get xs caller ≡ Some proc) c.items.ensures (slice_get_read c.items.result.now (length procs) caller proc (sym len) less c.index-items-caller.is) in
    graph_more procs caller old new proc c.loop-caller.invariant at (subst (λ xs. AddsEdges old new caller (LeadTo xs)) c.items-in-loop-caller.ensures c.in_ok-add_sites.ensures)

pub returns : goal.returns
returns c = graph_all c.args.procs.now c.loop-caller.caller c.loop-caller.graph c.loop-caller.invariant (omega (arith, c.in-Ok.ensures))
