use Rattle.std.proofs.Common.{◌≡◌, ◌<◌, ◌∙◌, [], inl, length, set, sym, ap, subst}
use Rattle.std.proofs.lemmas.List.{get_or-set_other, length-set, set-set}
use Rattle.rt_grid.specs.Tables.{row_of, IsRelaxed, IsTable, Made, Says, SaysWith, Table}
use Rattle.rt_grid.specs.Tables.Made.{told}
use Rattle.rt_grid.proofs.Changing.{added_table}
use Rattle.rt_grid.proofs.Holding.{holds_by, says_holds}
use Rattle.rt_grid.proofs.Writing.{list_read, table_put, written}
use Rattle.rt_grid.proofs.grid.Grid.add.Goals as goal

pub returns-then-items-to-clause-holds : goal.returns-then-items-to-clause-holds
returns-then-items-to-clause-holds c =
    let old = c.args.self.now in
    holds_by (Says old) (Made (SaysWith old c.args.from c.args.to c.args.count)) (λ i j n w. told (inl w)) old (says_holds old)

pub returns-then-from-to-clause-holds : goal.returns-then-from-to-clause-holds
returns-then-from-to-clause-holds c =
    let old = c.args.self.now in
    holds_by (Says old) (Made (SaysWith old c.args.from c.args.to c.args.count)) (λ i j n w. told (inl w)) old (says_holds old)

pub invariant_of-self : goal.invariant_of-self
invariant_of-self c =
    let old = c.args.self.now in
    let inside = c.self-2.inside in
    let row = c.relax.new.row in
    let taken = c.into_vec-row.result in
    let is : IsTable old.rows old.steps c.self.inside.changed.items c.self.inside.seen.items = subst (λ (t : Table). IsTable t.rows t.steps c.self.inside.changed.items c.self.inside.seen.items) c.self.view_is c.self.invariant in
    let rows : inside.rows.items ≡ old.rows = ap (λ (t : Table). t.rows) c.self-2.view_is ∙ c.in_ok-push_step.ensures.rows in
    let was : taken.items ≡ row_of old.rows c.args.from = list_read inside.rows.items old.rows c.args.from taken.items c.index_mut.result.now rows c.requires.from (c.into_vec-row.ensures ∙ c.replace.ensures.value) c.index_mut.ensures.value in
    let each : length row ≡ length taken.items = c.relax.ensures.each ∙ ap length c.deref_mut.ensures.value in
    let back : c.from_vec.result ≡ row = c.from_vec.ensures ∙ written taken.len row taken.items (taken.ok.0 ∙ sym each) in
    let less : c.args.from < length inside.rows.items = subst (λ n. c.args.from < n) (sym (ap length rows)) c.requires.from in
    let long : length c.from_vec.result ≡ length inside.rows.items = ap length back ∙ each ∙ ap length was ∙ is.square c.args.from c.requires.from ∙ sym (ap length rows) in
    subst (λ xs. IsTable xs inside.steps.items (set inside.changed.items c.args.from c.saturating_add-self-inside.result) inside.seen.items)
    (sym (set-set inside.rows.items c.args.from c.replace.new.dest c.from_vec.result))
    (table_put inside.rows.items inside.steps.items inside.changed.items inside.seen.items c.self-2.invariant c.args.from c.from_vec.result c.saturating_add-self-inside.result less long)

pub returns-clause-holds : goal.returns-clause-holds
returns-clause-holds c =
    let old = c.args.self.now in
    let inside = c.self-2.inside in
    let row = c.relax.new.row in
    let taken = c.into_vec-row.result in
    let is : IsTable old.rows old.steps c.self.inside.changed.items c.self.inside.seen.items = subst (λ (t : Table). IsTable t.rows t.steps c.self.inside.changed.items c.self.inside.seen.items) c.self.view_is c.self.invariant in
    let rows : inside.rows.items ≡ old.rows = ap (λ (t : Table). t.rows) c.self-2.view_is ∙ c.in_ok-push_step.ensures.rows in
    let was : taken.items ≡ row_of old.rows c.args.from = list_read inside.rows.items old.rows c.args.from taken.items c.index_mut.result.now rows c.requires.from (c.into_vec-row.ensures ∙ c.replace.ensures.value) c.index_mut.ensures.value in
    let each : length row ≡ length taken.items = c.relax.ensures.each ∙ ap length c.deref_mut.ensures.value in
    let back : c.from_vec.result ≡ row = c.from_vec.ensures ∙ written taken.len row taken.items (taken.ok.0 ∙ sym each) in
    let dest = c.replace.new.dest in
    let within : c.args.to < length (set old.rows c.args.from dest) = subst (λ n. c.args.to < n) (sym (length-set old.rows c.args.from dest)) c.requires.to in
    let by : c.items-2.result.now ≡ row_of old.rows c.args.to =
    list_read (set inside.rows.items c.args.from dest) (set old.rows c.args.from dest) c.args.to c.items-2.result.now c.index-2.result.now (ap (λ xs. set xs c.args.from dest) rows) within c.items-2.ensures c.index-2.ensures
    ∙ get_or-set_other old.rows c.args.from c.args.to dest [] (λ e. c.if-from-to.false (sym e)) in
    added_table old (record { rows = set (set inside.rows.items c.args.from dest) c.args.from c.from_vec.result; steps = inside.steps.items }) c.args.from c.args.to c.args.count row c.requires.from is.as_long
    (subst (λ xs. IsRelaxed xs (row_of old.rows c.args.to) c.args.count row) (c.deref_mut.ensures.value ∙ was)
    (subst (λ xs. IsRelaxed c.deref_mut.result.now xs c.args.count row) by c.relax.ensures.counts))
    (set-set inside.rows.items c.args.from dest c.from_vec.result ∙ ap (λ x. set inside.rows.items c.args.from x) back ∙ ap (λ xs. set xs c.args.from row) rows)
    (ap (λ (t : Table). t.steps) c.self-2.view_is ∙ c.in_ok-push_step.ensures.steps)
