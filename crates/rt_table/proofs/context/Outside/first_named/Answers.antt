use Rattle.std.proofs.Common.{◌≡◌, ◌∷◌, ◌∙◌, [], Bool, ap, sym}
use Rattle.rt_table.specs.Inside.Parts.{names_result}
use Rattle.rt_table.specs.Inside.Told.{linked_call}
use Rattle.rt_table.proofs.Tracing.{named-first}
use Rattle.rt_table.proofs.context.Outside.first_named.Goals as goal

pub returns-in-Some : goal.returns-in-Some
returns-in-Some c =
    ap (λ (b : Bool). b ∷ c.names_result-second.result ∷ []) (c.names_result-first.ensures ∙ ap (λ target. names_result target 0) c.target-target.ensures.target)
    ∙ ap (λ (b : Bool). names_result (linked_call c.args.self.now c.in-Some.call.now).target 0 ∷ b ∷ [])
    (c.names_result-second.ensures ∙ ap (λ target. names_result target 1) c.target-target.ensures.target)
    ∙ sym (named-first (linked_call c.args.self.now) c.args.calls.now c.in-Some.call.now (sym c.in-Some.ensures.value))
