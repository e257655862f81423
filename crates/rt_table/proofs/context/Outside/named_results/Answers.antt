use Rattle.std.proofs.Common.{◌≡◌, ◌∷◌, ◌++◌, ◌∙◌, [], List, Bool, ap, map, sym}
use Rattle.rt_liveness.specs.declared.call.Call.{Call}
use Rattle.rt_table.specs.Inside.Parts.{named_results}
use Rattle.rt_table.specs.Inside.Told.{linked_call}
use Rattle.rt_table.proofs.Tracing.{named-more}
use Rattle.rt_table.proofs.context.Outside.named_results.Goals as goal

pub loop-here-preserved : goal.loop-here-preserved
loop-here-preserved c =
    let link = linked_call c.args.self.now in
    let i = c.loop-here.here-index in
    let old = c.loop-here.named.items in
    let here = c.here-item.result in
    c.in_ok-push.ensures.items
    ∙ ap (λ (x : List Bool). old ++ x ∷ []) (c.first_named.ensures ∙ ap (λ (h : List Call). named_results (map link h)) c.items.ensures)
    ∙ ap (λ (all : List (List Bool)). all ++ named_results (map link here) ∷ []) c.loop-here.invariant
    ∙ sym (named-more link c.args.calls.now i here c.loop-here-test.true c.here-item.is)
