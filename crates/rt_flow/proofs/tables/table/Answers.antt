use Rattle.std.proofs.Common.{List, ℕ, Option, sym, subst}
use Rattle.std.proofs.lemmas.Result.{IfOk-weaker}
use Rattle.rt_flow.specs.Inside.Spreading.{AreAscending, AreRows}
use Rattle.rt_flow.proofs.Tabled.{targets_within, lasts_rise, table_of}
use Rattle.rt_flow.proofs.tables.table.Goals as goal

pub rows-requires-clause-within : goal.rows-requires-clause-within
rows-requires-clause-within c = let r = c.requires.of_body in targets_within r.0 c.args.blocks.now.block.items c.args.blocks.now.firsts.items r.2 c.args.targets.now r.1 r.3

pub rows-requires-clause-ascending : goal.rows-requires-clause-ascending
rows-requires-clause-ascending c =
    let r = c.requires.of_body in
    subst AreAscending (sym c.deref.ensures.value) (lasts_rise r.0 c.args.blocks.now.block.items c.args.blocks.now.firsts.items r.2 c.args.sites.now c.in_ok-lasts.lasts.items c.in_ok-lasts.ensures)

pub returns-clause-table : goal.returns-clause-table
returns-clause-table c =
    let r = c.requires.of_body in
    IfOk-weaker c.numbers.result _ _ (λ table h.
    table_of c.args.blocks.now.firsts.items c.args.targets.now c.args.entry c.args.sites.now c.numbers.new.sets table.items c.in_ok-lasts.lasts.items c.in_ok-rows.rows.items r.3.each c.in_ok-lasts.ensures
    (subst (λ (ls : List (Option ℕ)). AreRows c.args.targets.now ls c.args.entry c.in_ok-rows.rows.items) c.deref.ensures.value c.in_ok-rows.ensures) h) c.numbers.ensures.numbers
