use Rattle.std.proofs.Common.{◌≡◌, List, Contains, ap}
use Rattle.std.proofs.lemmas.Option.{slice_get-get_or}
use Rattle.rt_liveness.specs.declared.rule.Rule.{Rule}
use Rattle.rt_liveness.specs.Inside.Closures.{IsPremise, rules_at}
use Rattle.rt_liveness.proofs.Adding.{next_item, all_items, alike, from_none}
use Rattle.rt_liveness.proofs.Following.{by_premises}
use Rattle.rt_liveness.proofs.closure.by_premise.Goals as goal

pub loop-rule-preserved : goal.loop-rule-preserved
loop-rule-preserved c = λ p.
    let rules = c.args.rules.now in
    next_item rules (λ rule other. (other ≡ rule) × IsPremise p rule) (rules_at c.new-table.result.items p) (rules_at c.loop-rule.table.items p) (rules_at c.add_rule.new.table.items p) c.loop-rule.rule-index _
    (slice_get-get_or rules c.loop-rule.rule-index _ c.loop-rule-test.true) (c.loop-rule.invariant p) (c.in_ok-add_rule.ensures p)

pub returns : goal.returns
returns c = λ p rule.
    let rules = c.args.rules.now in
    let first = rules_at c.new-table.result.items p in
    let last = rules_at c.loop-rule.table.items p in
    from_none first last (λ other. Contains rules other × IsPremise p other) (ap (λ (t : List (List Rule)). rules_at t p) c.new-table.ensures.items)
    (alike first last (λ other. (item : Rule) × Contains rules item × ((other ≡ item) × IsPremise p item)) (λ other. Contains rules other × IsPremise p other) (by_premises rules p)
    (all_items rules (λ item other. (other ≡ item) × IsPremise p item) first last c.loop-rule.rule-index c.loop-rule-test.false (c.loop-rule.invariant p)))
    rule
