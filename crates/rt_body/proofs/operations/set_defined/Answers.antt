use Rattle.std.proofs.Common.{◌≡◌, ℕ, List, rules, sym, subst, ◌∙◌}
use Rattle.std.specs.Prelude.{Contains}
use Rattle.std.proofs.lemmas.Result.{on_ok_weaker}
use Rattle.rt_body.specs.Actions.{defined_by}
use Rattle.rt_body.proofs.operations.set_defined.Goals as goal

pub returns-in_ok-defined-in_default-clause-rest : goal.returns-in_ok-defined-in_default-clause-rest
returns-in_ok-defined-in_default-clause-rest c =
    let same : c.items-in_default.result.now ≡ defined_by c.args.action = search rules in
    on_ok_weaker c.set_each.result (λ rest r none. rest r (subst (λ (rs : List ℕ). Contains rs r → ⊥) (sym same) none) ∙ c.requires.own r) c.set_each.ensures.rest
