use Rattle.std.proofs.Common.{◌≡◌, ◌<◌, List, ℕ, [], All, length, get_or, sym, ap, subst, ◌∙◌}
use Rattle.std.proofs.lemmas.List.{get_or_read}
use Rattle.rt_plan.specs.Inside.Boards.{times}
use Rattle.rt_plan.proofs.Calling.{callers_within}
use Rattle.rt_plan.proofs.calls.Calls.callers.Goals as goal

pub index-requires : goal.index-requires
index-requires c =
    let less : c.args.group < length c.self.inside.callees.items = subst (λ n. c.args.group < n) (sym (ap length c.self.view_is)) c.requires in
    subst (λ n. c.args.group < n) (sym (c.self.inside.callers.ok.0 ∙ c.self.invariant.each)) less

pub returns-clause-within : goal.returns-clause-within
returns-clause-within c =
    let less : c.args.group < length c.self.inside.callees.items = subst (λ n. c.args.group < n) (sym (ap length c.self.view_is)) c.requires in
    let is : c.items.result.now ≡ get_or c.self.inside.callers.items c.args.group [] = c.items.ensures ∙ get_or_read c.self.inside.callers.items c.args.group c.index.result.now (subst (λ n. c.args.group < n) (sym c.self.invariant.each) less) c.index.ensures [] in
    subst (All (λ g. g < length c.args.self.now)) (sym is) (subst (λ (callees : List (List ℕ)). All (λ g. g < length callees) (get_or c.self.inside.callers.items c.args.group [])) c.self.view_is (callers_within c.self.inside.callees.items c.self.inside.callers.items c.self.invariant c.args.group))

pub returns-clause-called : goal.returns-clause-called
returns-clause-called c g =
    let less : c.args.group < length c.self.inside.callees.items = subst (λ n. c.args.group < n) (sym (ap length c.self.view_is)) c.requires in
    let is : c.items.result.now ≡ get_or c.self.inside.callers.items c.args.group [] = c.items.ensures ∙ get_or_read c.self.inside.callers.items c.args.group c.index.result.now (subst (λ n. c.args.group < n) (sym c.self.invariant.each) less) c.index.ensures [] in
    ap (times g) is ∙ (c.self.invariant.called g c.args.group ∙ ap (λ (callees : List (List ℕ)). times c.args.group (get_or callees g [])) c.self.view_is)
