use Rattle.std.proofs.Common.{◌≡◌, ◌<◌, ◌+◌, List, [], ◌∷◌, ◌++◌, length, set, ap, ◌∙◌, arith}
use Rattle.std.proofs.lemmas.List.{get_or_read}
use Rattle.std.proofs.lemmas.Result.{on_ok_weaker}
use Rattle.rt_liveness.specs.declared.rule.Rule.{Rule}
use Rattle.rt_liveness.specs.Inside.Closures.{rules_at}
use Rattle.rt_liveness.proofs.Following.{row_added}
use Rattle.rt_liveness.proofs.closure.add_rule.Goals as goal

pub returns-in_ok-grow-in-If : goal.returns-in_ok-grow-in-If
returns-in_ok-grow-in-If c =
    let rows = c.grow.new.table.items in
    let premise = c.in-If.premise in
    let grown = c.in_ok-grow-in-If.ensures in
    let less : premise.procedure < length rows = omega (arith, grown.long) in
    let was : c.index_mut.result.now ≡ rules_at rows premise.procedure = get_or_read rows premise.procedure c.index_mut.result.now less c.index_mut.ensures.value [] in
    on_ok_weaker c.push.result
    (λ e. row_added c.args.table.now.items premise c.args.rule c.in-If.is rows (set rows premise.procedure c.push.new.self) grown.same less
    (ap (set rows premise.procedure) (e ∙ ap (λ (rs : List Rule). rs ++ c.args.rule ∷ []) was)))
    c.push.ensures.ok
