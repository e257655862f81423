use Rattle.std.proofs.Common.{◌≡◌, ◌<◌, ◌∙◌, [], Contains, length, set, ap, sym, subst, arith}
use Rattle.std.proofs.lemmas.List.{get_or_read}
use Rattle.rt_grid.specs.Tables.{size_of, steps_of, Holds, Says, Table}
use Rattle.rt_grid.proofs.Changing.{pruned_table}
use Rattle.rt_grid.proofs.Writing.{table_steps}
use Rattle.rt_grid.proofs.grid.Grid.prune_at.Goals as goal

pub pruned-requires-clause-steps : goal.pruned-requires-clause-steps
pruned-requires-clause-steps c =
    let steps = c.self.inside.steps.items in
    let size : length c.self.inside.rows.items ≡ size_of c.args.self.now = ap size_of c.self.view_is in
    let long : length c.self.inside.steps.items ≡ length c.self.inside.rows.items = c.self.invariant.as_long in
    let less : c.args.place < length c.self.inside.steps.items = omega (arith, c.requires) in
    let same : c.items.result.now ≡ steps_of c.self.inside.steps.items c.args.place = c.items.ensures ∙ get_or_read steps c.args.place c.index.result.now less c.index.ensures [] in
    λ s h. subst (λ n. s.to < n) (sym (ap length c.deref-2.ensures.value)) (c.self.invariant.inside c.args.place s (subst (λ xs. Contains xs s) same h))

pub invariant_of-self : goal.invariant_of-self
invariant_of-self c =
    let steps = c.self.inside.steps.items in
    let size : length c.self.inside.rows.items ≡ size_of c.args.self.now = ap size_of c.self.view_is in
    let long : length c.self.inside.steps.items ≡ length c.self.inside.rows.items = c.self.invariant.as_long in
    let less : c.args.place < length c.self.inside.steps.items = omega (arith, c.requires) in
    let same : c.items.result.now ≡ steps_of c.self.inside.steps.items c.args.place = c.items.ensures ∙ get_or_read steps c.args.place c.index.result.now less c.index.ensures [] in
    table_steps c.self.inside.rows.items steps c.self.inside.changed.items c.self.inside.seen.items c.self.invariant c.args.place c.in_ok-self-inside.field-0 (omega arith)
    (λ s h. c.self.invariant.inside c.args.place s (subst (λ xs. Contains xs s) same (c.in_ok-self-inside.ensures s h)))

pub returns-clause-holds : goal.returns-clause-holds
returns-clause-holds c =
    let rows = c.self.inside.rows.items in
    let steps = c.self.inside.steps.items in
    let kept = c.in_ok-self-inside.field-0 in
    let size : length c.self.inside.rows.items ≡ size_of c.args.self.now = ap size_of c.self.view_is in
    let long : length c.self.inside.steps.items ≡ length c.self.inside.rows.items = c.self.invariant.as_long in
    let less : c.args.place < length c.self.inside.steps.items = omega (arith, c.requires) in
    let same : c.items.result.now ≡ steps_of c.self.inside.steps.items c.args.place = c.items.ensures ∙ get_or_read steps c.args.place c.index.result.now less c.index.ensures [] in
    subst (λ (t : Table). Holds (Says t) (record { rows = rows; steps = set steps c.args.place kept })) c.self.view_is
    (pruned_table (record { rows = rows; steps = steps }) c.args.place kept less (λ s h. subst (λ xs. Contains xs s) same (c.in_ok-self-inside.ensures s h)))
