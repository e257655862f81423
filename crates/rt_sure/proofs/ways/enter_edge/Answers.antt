use Rattle.std.proofs.Common.{◌++◌, ◌∷◌, [], List, None, ap, set, ◌∙◌, arith}
use Rattle.std.proofs.lemmas.List.{get_or_default}
use Rattle.rt_outline.specs.declared.arc.Arc.{Arc}
use Rattle.rt_outline.proofs.Entered.{arc_added}
use Rattle.rt_sat.specs.declared.state.State.{State}
use Rattle.rt_equals.proofs.Equal.{placed}
use Rattle.rt_sure.proofs.Entered.{edge_more, edge_other}
use Rattle.rt_sure.proofs.ways.enter_edge.Goals.{then-edge-via-then-edge, then-edge-via-else-edge+then-edge-2, then-edge-via-else-edge+else-edge-2+then-capped-ne0}
use Rattle.rt_sure.proofs.ways.enter_edge.Goals as goal

pub returns-then-edge : goal.returns-then-edge
returns-then-edge c = λ lines count named seen are.
    edge_other lines count named seen c.args.edge.now c.args.arcs.now.items
    (λ p. (
    let f = ap (λ (s : State). s.contra) p.from in
    let g = ap (λ (s : State). s.contra) p.to in
    let n = p.none in
    elim c.then-edge.branch [
      | then-edge-via-then-edge w ↦ absurd (let h = w.if-edge.true in cc)
      | then-edge-via-else-edge+then-edge-2 w ↦ absurd (let h = w.if-edge-2.true in cc)
      | then-edge-via-else-edge+else-edge-2+then-capped-ne0 w ↦ absurd (omega (arith, w.capped.ensures, w.if-capped-ne0.true, n))
    ])) are

pub returns : goal.returns
returns c = λ lines count named seen are.
    let arc : Arc = record { to = c.args.edge.now.to.variable; line = None } in
    edge_more lines count named seen c.args.edge.now c.args.arcs.now.items
    (set c.args.arcs.now.items c.args.edge.now.from.variable c.push.new.self)
    (record {
      from = placed c.args.edge.now.from c.if-edge.false;
      to = placed c.args.edge.now.to c.if-edge-2.false;
      none = omega (arith, c.capped.ensures, c.if-capped-ne0.false);
    })
    (arc_added c.args.edge.now.from.variable arc c.args.arcs.now.items c.push.new.self c.requires
    (c.in_ok-push.ensures.ok ∙ ap (λ (xs : List Arc). xs ++ arc ∷ [])
    (c.index_mut.ensures.value ∙ get_or_default c.args.arcs.now.items c.args.edge.now.from.variable _ [] c.requires))) are
