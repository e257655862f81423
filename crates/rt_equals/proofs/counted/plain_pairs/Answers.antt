use Rattle.std.proofs.Common.{List, take, sym, subst}
use Rattle.std.proofs.lemmas.List.{take_all}
use Rattle.rt_sat.specs.declared.state.Edge.{Edge}
use Rattle.rt_equals.specs.Plain.{ArePlainPairs}
use Rattle.rt_equals.proofs.Pairing.{pairs_none}
use Rattle.rt_equals.proofs.counted.plain_pairs.Goals as goal
use Rattle.rt_base.proofs.Lists.{take-next}

pub loop-edge-init : goal.loop-edge-init
loop-edge-init c = pairs_none c.new-pairs.result.items c.new-pairs.ensures.items

pub loop-edge-preserved : goal.loop-edge-preserved
loop-edge-preserved c =
    subst (λ (xs : List Edge). ArePlainPairs xs c.add_pair.new.pairs.items)
    (sym (take-next c.args.edges.now c.loop-edge.edge-index c.edge-item.result c.loop-edge-test.true c.edge-item.is))
    (c.in_ok-add_pair.ensures (take c.loop-edge.edge-index c.args.edges.now) c.loop-edge.invariant)

pub returns : goal.returns
returns c =
    subst (λ (xs : List Edge). ArePlainPairs xs c.loop-edge.pairs.items)
    (take_all c.loop-edge.edge-index c.args.edges.now c.loop-edge-test.false) c.loop-edge.invariant
