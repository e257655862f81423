use Rattle.std.proofs.Common.{◌<◌, ◌++◌, ◌∷◌, [], List, Some, ap, length, set, subst, ◌∙◌, arith}
use Rattle.std.proofs.lemmas.List.{get_or_default}
use Rattle.std.proofs.lemmas.Option.{slice_get_within}
use Rattle.rt_outline.specs.declared.arc.Arc.{Arc}
use Rattle.rt_outline.specs.Arcs.{IsAdded}
use Rattle.rt_outline.proofs.Entered.{arc_added}
use Rattle.rt_sure.proofs.Entered.{line_more}
use Rattle.rt_sure.proofs.ways.enter_line.Goals as goal

pub returns-in_ok-push-in-Sub : goal.returns-in_ok-push-in-Sub
returns-in_ok-push-in-Sub c = λ lines edges e are.
    let arc : Arc = record { to = c.number-to.result; line = Some c.in_ok-line_at-in-Sub.field-0 } in
    let small : c.number-from.result < length c.args.named.now =
    slice_get_within c.args.named.now c.number-from.result c.in-Sub.x c.number-from.ensures in
    let room : c.number-from.result < length c.args.arcs.now.items = omega (arith, small, c.requires.each) in
    line_more lines c.args.named.now edges c.args.i c.in-Sub.x c.in-Sub.y c.number-from.result c.number-to.result c.args.arcs.now.items
    (set c.args.arcs.now.items c.number-from.result c.push.new.self) (e ∙ ap Some c.in-Sub.is) c.number-from.ensures c.number-to.ensures
    (subst (λ n. IsAdded c.number-from.result (record { to = c.number-to.result; line = Some n }) c.args.arcs.now.items (set c.args.arcs.now.items c.number-from.result c.push.new.self)) c.in_ok-line_at-in-Sub.ensures
    (arc_added c.number-from.result arc c.args.arcs.now.items c.push.new.self room
    (c.in_ok-push-in-Sub.ensures.ok ∙ ap (λ (xs : List Arc). xs ++ arc ∷ [])
    (c.index_mut.ensures.value ∙ get_or_default c.args.arcs.now.items c.number-from.result _ [] room)))) are
