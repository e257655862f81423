use Rattle.std.proofs.Common.{◌≡◌, ◌+◌, List, [], ◌∷◌, ◌++◌, take, Contains, sym, ap, subst, ◌∙◌}
use Rattle.std.proofs.lemmas.List.{take_more}
use Rattle.rt_proc.specs.declared.site.Callee.{Callee}
use Rattle.rt_proc.specs.declared.site.Callee.TheVariants.{Proc}
use Rattle.rt_calls.specs.Calls.{AddsEdges, TailCallsAt, LeadTo}
use Rattle.rt_calls.proofs.Adding.{adds_site}
use Rattle.rt_calls.proofs.edges.add_sites.Goals as goal

pub loop-site-preserved : goal.loop-site-preserved
loop-site-preserved c =
    let sites = c.args.sites.now in
    let i = c.loop-site.site-index in
    let site = c.site-item.result in
    let old = c.args.graph.now in
    let mid = c.add_call.new.graph in
    let new = c.add_tails.new.graph in
    let more : take (i + 1) sites ≡ take i sites ++ site ∷ [] = take_more sites i site c.loop-site-test.true ∙ ap (λ s. take i sites ++ s ∷ []) (sym c.site-item.is) in
    let tails : AddsEdges mid new c.args.caller (TailCallsAt site) = subst (λ (xs : List Callee). AddsEdges mid new c.args.caller (λ q. Contains xs (Proc q))) c.items.ensures c.in_ok-add_tails.ensures in
    subst (λ xs. AddsEdges old new c.args.caller (LeadTo xs)) (sym more)
    (adds_site old c.loop-site.graph mid new c.args.caller (take i sites) site c.loop-site.invariant c.in_ok-add_call.ensures tails)
