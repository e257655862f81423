use Rattle.std.proofs.Common.{◌≡◌, ◌<◌, ◌∙◌, [], Contains, length, set, sym, ap, subst}
use Rattle.std.proofs.lemmas.List.{length-set, set-set}
use Rattle.rt_grid.specs.Tables.{row_of, size_of, steps_of, IsRelaxedBy, IsTable, Table}
use Rattle.rt_grid.proofs.Changing.{relaxed_but, relaxed_table}
use Rattle.rt_grid.proofs.Holding.{made_self}
use Rattle.rt_grid.proofs.Writing.{list_read, table_put, table_row, table_seen, written}
use Rattle.rt_grid.proofs.grid.Grid.go_over.Goals as goal

pub is_due-requires : goal.is_due-requires
is_due-requires c =
    let old = c.args.self.now in
    let is = subst (λ (t : Table). IsTable t.rows t.steps c.self.inside.changed.items c.self.inside.seen.items) c.self.view_is c.self.invariant in
    let less : c.args.place < length old.steps = subst (λ n. c.args.place < n) (sym is.as_long) c.requires in
    let same : c.items.result.now ≡ steps_of old.steps c.args.place = list_read c.self.inside.steps.items old.steps c.args.place c.items.result.now c.index.result.now (ap (λ (t : Table). t.steps) c.self.view_is) less c.items.ensures c.index.ensures in
    λ s h. subst (λ n. s.to < n) (sym (ap length c.deref.ensures.value ∙ is.noted)) (is.inside c.args.place s (subst (λ xs. Contains xs s) same h))

pub returns-then-not-is_due-clause-holds : goal.returns-then-not-is_due-clause-holds
returns-then-not-is_due-clause-holds c = made_self c.args.self.now

pub relax_all-any-requires-clause-steps : goal.relax_all-any-requires-clause-steps
relax_all-any-requires-clause-steps c =
    let old = c.args.self.now in
    let is = subst (λ (t : Table). IsTable t.rows t.steps c.self.inside.changed.items c.self.inside.seen.items) c.self.view_is c.self.invariant in
    let less : c.args.place < length old.steps = subst (λ n. c.args.place < n) (sym is.as_long) c.requires in
    let same : c.items-2.result.now ≡ steps_of old.steps c.args.place = list_read c.self.inside.steps.items old.steps c.args.place c.items-2.result.now c.index-2.result.now (ap (λ (t : Table). t.steps) c.self.view_is) less c.items-2.ensures c.index-2.ensures in
    λ s h. subst (λ n. s.to < n) (sym (ap length c.deref-2.ensures.value ∙ length-set c.self.inside.rows.items c.args.place c.replace.new.dest ∙ ap size_of c.self.view_is)) (is.inside c.args.place s (subst (λ xs. Contains xs s) same h))

pub invariant_of-self : goal.invariant_of-self
invariant_of-self c =
    let old = c.args.self.now in
    let inside = c.self.inside in
    let row = c.relax_all-any.new.row in
    let taken = c.into_vec-row.result in
    let is : IsTable old.rows old.steps inside.changed.items inside.seen.items = subst (λ (t : Table). IsTable t.rows t.steps inside.changed.items inside.seen.items) c.self.view_is c.self.invariant in
    let rows = ap (λ (t : Table). t.rows) c.self.view_is in
    let less : c.args.place < length inside.rows.items = subst (λ n. c.args.place < n) (sym (ap size_of c.self.view_is)) c.requires in
    let was : taken.items ≡ row_of old.rows c.args.place = list_read inside.rows.items old.rows c.args.place taken.items c.index_mut-2.result.now rows c.requires (c.into_vec-row.ensures ∙ c.replace.ensures.value) c.index_mut-2.ensures.value in
    let each : length row ≡ length taken.items = c.relax_all-any.ensures.each ∙ ap length c.deref_mut.ensures.value in
    let back : c.from_vec.result ≡ row = c.from_vec.ensures ∙ written taken.len row taken.items (taken.ok.0 ∙ sym each) in
    let long : length c.from_vec.result ≡ length inside.rows.items = ap length back ∙ each ∙ ap length was ∙ is.square c.args.place c.requires ∙ sym (ap size_of c.self.view_is) in
    subst (λ xs. IsTable xs inside.steps.items (set inside.changed.items c.args.place c.saturating_add-self-inside.result) (set inside.seen.items c.args.place c.saturating_add-self-inside.result))
    (sym (set-set inside.rows.items c.args.place c.replace.new.dest c.from_vec.result))
    (table_put inside.rows.items inside.steps.items inside.changed.items (set inside.seen.items c.args.place c.saturating_add-self-inside.result)
    (table_seen inside.rows.items inside.steps.items inside.changed.items inside.seen.items c.self.invariant c.args.place c.saturating_add-self-inside.result) c.args.place c.from_vec.result c.saturating_add-self-inside.result less long)

pub invariant_of-self-else-any : goal.invariant_of-self-else-any
invariant_of-self-else-any c =
    let old = c.args.self.now in
    let inside = c.self.inside in
    let row = c.relax_all-any.new.row in
    let taken = c.into_vec-row.result in
    let is : IsTable old.rows old.steps inside.changed.items inside.seen.items = subst (λ (t : Table). IsTable t.rows t.steps inside.changed.items inside.seen.items) c.self.view_is c.self.invariant in
    let rows = ap (λ (t : Table). t.rows) c.self.view_is in
    let less : c.args.place < length inside.rows.items = subst (λ n. c.args.place < n) (sym (ap size_of c.self.view_is)) c.requires in
    let was : taken.items ≡ row_of old.rows c.args.place = list_read inside.rows.items old.rows c.args.place taken.items c.index_mut-2.result.now rows c.requires (c.into_vec-row.ensures ∙ c.replace.ensures.value) c.index_mut-2.ensures.value in
    let each : length row ≡ length taken.items = c.relax_all-any.ensures.each ∙ ap length c.deref_mut.ensures.value in
    let back : c.from_vec.result ≡ row = c.from_vec.ensures ∙ written taken.len row taken.items (taken.ok.0 ∙ sym each) in
    let long : length c.from_vec.result ≡ length inside.rows.items = ap length back ∙ each ∙ ap length was ∙ is.square c.args.place c.requires ∙ sym (ap size_of c.self.view_is) in
    subst (λ xs. IsTable xs inside.steps.items inside.changed.items (set inside.seen.items c.args.place c.saturating_add-self-inside.result))
    (sym (set-set inside.rows.items c.args.place c.replace.new.dest c.from_vec.result))
    (table_row inside.rows.items inside.steps.items inside.changed.items (set inside.seen.items c.args.place c.saturating_add-self-inside.result)
    (table_seen inside.rows.items inside.steps.items inside.changed.items inside.seen.items c.self.invariant c.args.place c.saturating_add-self-inside.result) c.args.place c.from_vec.result less long)

pub returns-then-any-clause-holds : goal.returns-then-any-clause-holds
returns-then-any-clause-holds c =
    let old = c.args.self.now in
    let inside = c.self.inside in
    let row = c.relax_all-any.new.row in
    let taken = c.into_vec-row.result in
    let is : IsTable old.rows old.steps inside.changed.items inside.seen.items = subst (λ (t : Table). IsTable t.rows t.steps inside.changed.items inside.seen.items) c.self.view_is c.self.invariant in
    let rows = ap (λ (t : Table). t.rows) c.self.view_is in
    let less : c.args.place < length inside.rows.items = subst (λ n. c.args.place < n) (sym (ap size_of c.self.view_is)) c.requires in
    let was : taken.items ≡ row_of old.rows c.args.place = list_read inside.rows.items old.rows c.args.place taken.items c.index_mut-2.result.now rows c.requires (c.into_vec-row.ensures ∙ c.replace.ensures.value) c.index_mut-2.ensures.value in
    let each : length row ≡ length taken.items = c.relax_all-any.ensures.each ∙ ap length c.deref_mut.ensures.value in
    let back : c.from_vec.result ≡ row = c.from_vec.ensures ∙ written taken.len row taken.items (taken.ok.0 ∙ sym each) in
    let along : c.items-2.result.now ≡ steps_of old.steps c.args.place = list_read inside.steps.items old.steps c.args.place c.items-2.result.now c.index-2.result.now (ap (λ (t : Table). t.steps) c.self.view_is)
    (subst (λ n. c.args.place < n) (sym is.as_long) c.requires) c.items-2.ensures c.index-2.ensures in
    let none : c.replace.new.dest ≡ [] = c.replace.ensures.after ∙ c.new.ensures in
    let counts : IsRelaxedBy (row_of old.rows c.args.place) old.rows (steps_of old.steps c.args.place) row =
    relaxed_but (row_of old.rows c.args.place) old.rows c.args.place (steps_of old.steps c.args.place) row c.requires
    (subst (λ xs. IsRelaxedBy xs (set old.rows c.args.place []) (steps_of old.steps c.args.place) row) (c.deref_mut.ensures.value ∙ was)
    (subst (λ xs. IsRelaxedBy c.deref_mut.result.now xs (steps_of old.steps c.args.place) row) (c.deref-2.ensures.value ∙ ap (λ x. set inside.rows.items c.args.place x) none ∙ ap (λ xs. set xs c.args.place []) rows)
    (subst (λ xs. IsRelaxedBy c.deref_mut.result.now c.deref-2.result.now xs row) along c.relax_all-any.ensures.counts))) in
    relaxed_table old (record { rows = set (set inside.rows.items c.args.place c.replace.new.dest) c.args.place c.from_vec.result; steps = inside.steps.items }) c.args.place row c.requires counts
    (set-set inside.rows.items c.args.place c.replace.new.dest c.from_vec.result ∙ ap (λ x. set inside.rows.items c.args.place x) back ∙ ap (λ xs. set xs c.args.place row) rows)
    (ap (λ (t : Table). t.steps) c.self.view_is)

pub returns-else-any-clause-holds : goal.returns-else-any-clause-holds
returns-else-any-clause-holds c =
    let old = c.args.self.now in
    let inside = c.self.inside in
    let row = c.relax_all-any.new.row in
    let taken = c.into_vec-row.result in
    let is : IsTable old.rows old.steps inside.changed.items inside.seen.items = subst (λ (t : Table). IsTable t.rows t.steps inside.changed.items inside.seen.items) c.self.view_is c.self.invariant in
    let rows = ap (λ (t : Table). t.rows) c.self.view_is in
    let less : c.args.place < length inside.rows.items = subst (λ n. c.args.place < n) (sym (ap size_of c.self.view_is)) c.requires in
    let was : taken.items ≡ row_of old.rows c.args.place = list_read inside.rows.items old.rows c.args.place taken.items c.index_mut-2.result.now rows c.requires (c.into_vec-row.ensures ∙ c.replace.ensures.value) c.index_mut-2.ensures.value in
    let each : length row ≡ length taken.items = c.relax_all-any.ensures.each ∙ ap length c.deref_mut.ensures.value in
    let back : c.from_vec.result ≡ row = c.from_vec.ensures ∙ written taken.len row taken.items (taken.ok.0 ∙ sym each) in
    let along : c.items-2.result.now ≡ steps_of old.steps c.args.place = list_read inside.steps.items old.steps c.args.place c.items-2.result.now c.index-2.result.now (ap (λ (t : Table). t.steps) c.self.view_is)
    (subst (λ n. c.args.place < n) (sym is.as_long) c.requires) c.items-2.ensures c.index-2.ensures in
    let none : c.replace.new.dest ≡ [] = c.replace.ensures.after ∙ c.new.ensures in
    let counts : IsRelaxedBy (row_of old.rows c.args.place) old.rows (steps_of old.steps c.args.place) row =
    relaxed_but (row_of old.rows c.args.place) old.rows c.args.place (steps_of old.steps c.args.place) row c.requires
    (subst (λ xs. IsRelaxedBy xs (set old.rows c.args.place []) (steps_of old.steps c.args.place) row) (c.deref_mut.ensures.value ∙ was)
    (subst (λ xs. IsRelaxedBy c.deref_mut.result.now xs (steps_of old.steps c.args.place) row) (c.deref-2.ensures.value ∙ ap (λ x. set inside.rows.items c.args.place x) none ∙ ap (λ xs. set xs c.args.place []) rows)
    (subst (λ xs. IsRelaxedBy c.deref_mut.result.now c.deref-2.result.now xs row) along c.relax_all-any.ensures.counts))) in
    relaxed_table old (record { rows = set (set inside.rows.items c.args.place c.replace.new.dest) c.args.place c.from_vec.result; steps = inside.steps.items }) c.args.place row c.requires counts
    (set-set inside.rows.items c.args.place c.replace.new.dest c.from_vec.result ∙ ap (λ x. set inside.rows.items c.args.place x) back ∙ ap (λ xs. set xs c.args.place row) rows)
    (ap (λ (t : Table). t.steps) c.self.view_is)
