use Rattle.std.proofs.Common.{Contains, sym}
use Rattle.rt_sat.proofs.Linking.{linked_none}
use Rattle.rt_sat.proofs.Telling.{told_edge}
use Rattle.rt_sat.proofs.links.Links.of.Goals as goal

pub loop-edge-init : goal.loop-edge-init
loop-edge-init c = λ known flips lines within. linked_none known flips lines (record { before = c.in_ok-no_states.field-0; behind = c.in_ok-no_states-2.field-0 }) c.in_ok-no_states.ensures c.in_ok-no_states-2.ensures

pub loop-edge-preserved : goal.loop-edge-preserved
loop-edge-preserved c = λ known flips lines within.
    let there : Contains c.args.edges.now c.edge-item.result = (c.loop-edge.edge-index, c.loop-edge-test.true, sym c.edge-item.is) in
    c.in_ok-enter.ensures known flips lines (told_edge known flips lines c.edge-item.result (within c.edge-item.result there)) (c.loop-edge.invariant known flips lines within)
