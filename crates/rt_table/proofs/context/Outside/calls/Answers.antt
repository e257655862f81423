use Rattle.std.proofs.Common.{◌≡◌, ◌∙◌, [], All, ap, get_or, sym, subst}
use Rattle.std.proofs.lemmas.List.{get_or_default}
use Rattle.rt_liveness.specs.Calls.{HasCallRegister}
use Rattle.rt_table.proofs.context.Outside.calls.Goals as goal

pub returns-clause-calls : goal.returns-clause-calls
returns-clause-calls c =
    let all = c.args.self.now.facts.now.calls in
    let i = c.args.number in
    let x = c.index-items-number.result in
    c.items-2.ensures ∙ c.index-items-number.is ∙ ap (λ xs. get_or xs i x) c.items.ensures ∙ get_or_default all i x [] c.requires.within

pub returns-clause-registers : goal.returns-clause-registers
returns-clause-registers c =
    let facts = c.args.self.now.facts.now in
    subst (All (All HasCallRegister)) (sym (returns-clause-calls c)) (facts.registers c.args.number [] c.requires.within)
