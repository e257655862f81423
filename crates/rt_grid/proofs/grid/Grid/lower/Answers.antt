use Rattle.std.proofs.Common.{◌≡◌, ◌<◌, ◌∙◌, length, set, sym, ap, subst}
use Rattle.std.proofs.lemmas.List.{set-set}
use Rattle.rt_grid.specs.Tables.{row_of, size_of, IsLowered, IsTable, Table}
use Rattle.rt_grid.proofs.Changing.{lowered_table}
use Rattle.rt_grid.proofs.Writing.{list_read, table_put, table_row, written}
use Rattle.rt_grid.proofs.grid.Grid.lower.Goals as goal

pub lower-any-requires : goal.lower-any-requires
lower-any-requires c =
    let old = c.args.self.now in
    let inside = c.self.inside in
    let taken = c.into_vec-row.result in
    let is : IsTable old.rows old.steps inside.changed.items inside.seen.items = subst (λ (t : Table). IsTable t.rows t.steps inside.changed.items inside.seen.items) c.self.view_is c.self.invariant in
    let rows = ap (λ (t : Table). t.rows) c.self.view_is in
    let less : c.args.from < length inside.rows.items = subst (λ n. c.args.from < n) (sym (ap size_of c.self.view_is)) c.requires.from in
    let was : taken.items ≡ row_of old.rows c.args.from = list_read inside.rows.items old.rows c.args.from taken.items c.index_mut.result.now rows c.requires.from (c.into_vec-row.ensures ∙ c.replace.ensures.value) c.index_mut.ensures.value in
    λ s h. subst (λ n. s.to < n) (sym (ap length (c.deref_mut.ensures.value ∙ was) ∙ is.square c.args.from c.requires.from)) (c.requires.ways s h)

pub invariant_of-self : goal.invariant_of-self
invariant_of-self c =
    let old = c.args.self.now in
    let inside = c.self.inside in
    let row = c.lower-any.new.row in
    let taken = c.into_vec-row.result in
    let is : IsTable old.rows old.steps inside.changed.items inside.seen.items = subst (λ (t : Table). IsTable t.rows t.steps inside.changed.items inside.seen.items) c.self.view_is c.self.invariant in
    let rows = ap (λ (t : Table). t.rows) c.self.view_is in
    let less : c.args.from < length inside.rows.items = subst (λ n. c.args.from < n) (sym (ap size_of c.self.view_is)) c.requires.from in
    let was : taken.items ≡ row_of old.rows c.args.from = list_read inside.rows.items old.rows c.args.from taken.items c.index_mut.result.now rows c.requires.from (c.into_vec-row.ensures ∙ c.replace.ensures.value) c.index_mut.ensures.value in
    let each : length row ≡ length taken.items = c.lower-any.ensures.each ∙ ap length c.deref_mut.ensures.value in
    let back : c.from_vec.result ≡ row = c.from_vec.ensures ∙ written taken.len row taken.items (taken.ok.0 ∙ sym each) in
    let long : length c.from_vec.result ≡ length inside.rows.items = ap length back ∙ each ∙ ap length was ∙ is.square c.args.from c.requires.from ∙ sym (ap size_of c.self.view_is) in
    subst (λ xs. IsTable xs inside.steps.items (set inside.changed.items c.args.from c.saturating_add-self-inside.result) inside.seen.items)
    (sym (set-set inside.rows.items c.args.from c.replace.new.dest c.from_vec.result))
    (table_put inside.rows.items inside.steps.items inside.changed.items inside.seen.items c.self.invariant c.args.from c.from_vec.result c.saturating_add-self-inside.result less long)

pub invariant_of-self-else-any : goal.invariant_of-self-else-any
invariant_of-self-else-any c =
    let old = c.args.self.now in
    let inside = c.self.inside in
    let row = c.lower-any.new.row in
    let taken = c.into_vec-row.result in
    let is : IsTable old.rows old.steps inside.changed.items inside.seen.items = subst (λ (t : Table). IsTable t.rows t.steps inside.changed.items inside.seen.items) c.self.view_is c.self.invariant in
    let rows = ap (λ (t : Table). t.rows) c.self.view_is in
    let less : c.args.from < length inside.rows.items = subst (λ n. c.args.from < n) (sym (ap size_of c.self.view_is)) c.requires.from in
    let was : taken.items ≡ row_of old.rows c.args.from = list_read inside.rows.items old.rows c.args.from taken.items c.index_mut.result.now rows c.requires.from (c.into_vec-row.ensures ∙ c.replace.ensures.value) c.index_mut.ensures.value in
    let each : length row ≡ length taken.items = c.lower-any.ensures.each ∙ ap length c.deref_mut.ensures.value in
    let back : c.from_vec.result ≡ row = c.from_vec.ensures ∙ written taken.len row taken.items (taken.ok.0 ∙ sym each) in
    let long : length c.from_vec.result ≡ length inside.rows.items = ap length back ∙ each ∙ ap length was ∙ is.square c.args.from c.requires.from ∙ sym (ap size_of c.self.view_is) in
    subst (λ xs. IsTable xs inside.steps.items inside.changed.items inside.seen.items)
    (sym (set-set inside.rows.items c.args.from c.replace.new.dest c.from_vec.result))
    (table_row inside.rows.items inside.steps.items inside.changed.items inside.seen.items c.self.invariant c.args.from c.from_vec.result less long)

pub returns-then-any-clause-holds : goal.returns-then-any-clause-holds
returns-then-any-clause-holds c =
    let old = c.args.self.now in
    let inside = c.self.inside in
    let row = c.lower-any.new.row in
    let taken = c.into_vec-row.result in
    let is : IsTable old.rows old.steps inside.changed.items inside.seen.items = subst (λ (t : Table). IsTable t.rows t.steps inside.changed.items inside.seen.items) c.self.view_is c.self.invariant in
    let rows = ap (λ (t : Table). t.rows) c.self.view_is in
    let less : c.args.from < length inside.rows.items = subst (λ n. c.args.from < n) (sym (ap size_of c.self.view_is)) c.requires.from in
    let was : taken.items ≡ row_of old.rows c.args.from = list_read inside.rows.items old.rows c.args.from taken.items c.index_mut.result.now rows c.requires.from (c.into_vec-row.ensures ∙ c.replace.ensures.value) c.index_mut.ensures.value in
    let each : length row ≡ length taken.items = c.lower-any.ensures.each ∙ ap length c.deref_mut.ensures.value in
    let back : c.from_vec.result ≡ row = c.from_vec.ensures ∙ written taken.len row taken.items (taken.ok.0 ∙ sym each) in
    lowered_table old (record { rows = set (set inside.rows.items c.args.from c.replace.new.dest) c.args.from c.from_vec.result; steps = inside.steps.items }) c.args.from c.args.ways.now row c.requires.from
    (subst (λ xs. IsLowered xs c.args.ways.now row) (c.deref_mut.ensures.value ∙ was) c.lower-any.ensures.counts)
    (set-set inside.rows.items c.args.from c.replace.new.dest c.from_vec.result ∙ ap (λ x. set inside.rows.items c.args.from x) back ∙ ap (λ xs. set xs c.args.from row) rows)
    (ap (λ (t : Table). t.steps) c.self.view_is)

pub returns-else-any-clause-holds : goal.returns-else-any-clause-holds
returns-else-any-clause-holds c =
    let old = c.args.self.now in
    let inside = c.self.inside in
    let row = c.lower-any.new.row in
    let taken = c.into_vec-row.result in
    let is : IsTable old.rows old.steps inside.changed.items inside.seen.items = subst (λ (t : Table). IsTable t.rows t.steps inside.changed.items inside.seen.items) c.self.view_is c.self.invariant in
    let rows = ap (λ (t : Table). t.rows) c.self.view_is in
    let less : c.args.from < length inside.rows.items = subst (λ n. c.args.from < n) (sym (ap size_of c.self.view_is)) c.requires.from in
    let was : taken.items ≡ row_of old.rows c.args.from = list_read inside.rows.items old.rows c.args.from taken.items c.index_mut.result.now rows c.requires.from (c.into_vec-row.ensures ∙ c.replace.ensures.value) c.index_mut.ensures.value in
    let each : length row ≡ length taken.items = c.lower-any.ensures.each ∙ ap length c.deref_mut.ensures.value in
    let back : c.from_vec.result ≡ row = c.from_vec.ensures ∙ written taken.len row taken.items (taken.ok.0 ∙ sym each) in
    lowered_table old (record { rows = set (set inside.rows.items c.args.from c.replace.new.dest) c.args.from c.from_vec.result; steps = inside.steps.items }) c.args.from c.args.ways.now row c.requires.from
    (subst (λ xs. IsLowered xs c.args.ways.now row) (c.deref_mut.ensures.value ∙ was) c.lower-any.ensures.counts)
    (set-set inside.rows.items c.args.from c.replace.new.dest c.from_vec.result ∙ ap (λ x. set inside.rows.items c.args.from x) back ∙ ap (λ xs. set xs c.args.from row) rows)
    (ap (λ (t : Table). t.steps) c.self.view_is)
