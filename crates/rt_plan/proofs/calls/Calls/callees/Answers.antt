use Rattle.std.proofs.Common.{◌<◌, [], All, length, get_or, sym, ap, subst, ◌∙◌}
use Rattle.std.proofs.lemmas.List.{get_or_read}
use Rattle.rt_plan.proofs.calls.Calls.callees.Goals as goal

pub returns-clause-value : goal.returns-clause-value
returns-clause-value c =
    let less : c.args.group < length c.self.inside.callees.items = subst (λ n. c.args.group < n) (sym (ap length c.self.view_is)) c.requires in
    c.items.ensures ∙ (get_or_read c.self.inside.callees.items c.args.group c.index.result.now less c.index.ensures [] ∙ ap (λ lists. get_or lists c.args.group []) c.self.view_is)

pub returns-clause-lower : goal.returns-clause-lower
returns-clause-lower c =
    let less : c.args.group < length c.self.inside.callees.items = subst (λ n. c.args.group < n) (sym (ap length c.self.view_is)) c.requires in
    subst (All (λ k. k < c.args.group)) (sym (c.items.ensures ∙ get_or_read c.self.inside.callees.items c.args.group c.index.result.now less c.index.ensures [])) (c.self.invariant.lower c.args.group)
