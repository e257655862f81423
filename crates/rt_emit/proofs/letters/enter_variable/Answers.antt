use Rattle.std.proofs.Common.{rules, ◌≡◌, ◌+◌, ℕ, Some, List, length, get_or, take, drop, ap, subst, sym, ◌∙◌, arith}
use Rattle.std.proofs.lemmas.List.{take_all}
use Rattle.rt_lines.specs.declared.label.Label.{Label}
use Rattle.rt_lines.specs.declared.label.Label.TheVariants.{In}
use Rattle.rt_lines.specs.declared.label.Loc.TheVariants.{Arg}
use Rattle.rt_lines.specs.declared.variable.Dtv.{Dtv}
use Rattle.rt_rules.specs.Rules.{longer}
use Rattle.rt_shape.specs.Graphs.{node_of, step_of, walk, Has}
use Rattle.rt_shape.proofs.Fronts.{front_of, front_of-more}
use Rattle.rt_shape.proofs.Walks.{node_of-longer}
use Rattle.rt_emit.specs.Inside.Letters.{with_edges, AreKept, IsReached}
use Rattle.rt_emit.proofs.Lettering.{new_here, still_edges, still_there, in_graph, has_node_kept, drop_next}
use Rattle.rt_emit.proofs.letters.enter_variable.Goals as goal

pub loop-label-preserved : goal.loop-label-preserved
loop-label-preserved c =
    let x : Dtv = c.args.x.now in
    let graph = c.args.shape.now in
    let items : List Label = c.items-label-items.result.now in
    let i : ℕ = c.loop-label.label-index in
    let letter : Label = get_or items i (In (Arg 0)) in
    let old = c.loop-label.edges.entries in
    let new = c.enter.new.edges.entries in
    let more : longer (front_of x i) letter ≡ front_of x (i + 1) =
    front_of-more x items i (In (Arg 0)) c.items-label-items.ensures.letters (omega arith) in
    let step : step_of graph c.loop-label.node letter ≡ Some c.in-Some-step.next = search rules in
    let reached : IsReached graph c.loop-label.node =
    (front_of x i, in_graph graph old c.loop-label.invariant.good (front_of x i) c.loop-label.node c.loop-label.invariant.walked) in
    let stays : AreKept old new =
    still_there c.loop-label.node letter c.in-Some-step.next old new c.in_ok-enter.ensures.edges graph step reached
    c.loop-label.invariant.good in
    let here : node_of (with_edges graph new) (front_of x i) ≡ Some c.loop-label.node =
    has_node_kept graph old new stays (front_of x i) c.loop-label.node c.loop-label.invariant.walked in
    record {
      letters = c.items-label-items.ensures.letters;
      good = still_edges c.loop-label.node letter c.in-Some-step.next old new c.in_ok-enter.ensures.edges graph step reached
          c.loop-label.invariant.good;
      after = c.in_ok-enter.ensures.after;
      kept = λ n l m e. stays n l m (c.loop-label.invariant.kept n l m e);
      rest = (
        c.loop-label.invariant.rest.0,
        sym (ap (λ o. walk graph.edges o (drop (i + 1) items)) step) ∙
            sym (ap (λ ls. walk graph.edges (Some c.loop-label.node) ls) (drop_next items i (In (Arg 0)) (omega arith))) ∙
            c.loop-label.invariant.rest.1,
      );
      walked = subst (λ v. node_of (with_edges graph new) v ≡ Some c.in-Some-step.next) more
          (node_of-longer (with_edges graph new) (front_of x i) letter c.loop-label.node here ∙
          new_here c.loop-label.node letter c.in-Some-step.next old new c.in_ok-enter.ensures.edges);
    }

pub returns-clause-walked : goal.returns-clause-walked
returns-clause-walked c =
    let whole : take c.loop-label.label-index c.args.x.now.word ≡ c.args.x.now.word =
    take_all c.loop-label.label-index c.args.x.now.word (omega (arith, ap length c.loop-label.invariant.letters)) in
    subst (λ w. Has (with_edges c.args.shape.now c.loop-label.edges.entries) (record { base = c.args.x.now.base; word = w })) whole
    (c.loop-label.node, c.loop-label.invariant.walked)
