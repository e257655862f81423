use Rattle.std.proofs.Common.{◌+◌, List, [], ℕ, length, sym, ap, subst, ◌∙◌}
use Rattle.std.specs.Prelude.{slice_index_or}
use Rattle.std.proofs.lemmas.List.{length_push}
use Rattle.rt_flow.specs.Tables.{IsTable}
use Rattle.rt_flow.proofs.Tabled.{tables_more}
use Rattle.rt_flow.proofs.tables.tables.Goals as goal

pub loop-class-preserved : goal.loop-class-preserved
loop-class-preserved c = record {
  each = ap length c.in_ok-push.ensures.items ∙ length_push c.loop-class.tables.items c.from_vec.result ∙ ap (λ n. n + 1) c.loop-class.invariant.each;
  tables = tables_more c.args.blocks.now.firsts.items c.args.targets.now c.args.entry c.args.classes.now c.loop-class.class c.loop-class.sets c.table.new.sets c.loop-class.tables.items c.push.new.self.items c.from_vec.result
      c.loop-class.invariant.tables c.loop-class.invariant.each c.in_ok-table.ensures.grows
      (subst (IsTable c.args.blocks.now.firsts.items c.args.targets.now c.args.entry (slice_index_or c.args.classes.now c.loop-class.class []) c.table.new.sets) (sym c.from_vec.ensures)
      (subst (λ (ss : List ℕ). IsTable c.args.blocks.now.firsts.items c.args.targets.now c.args.entry ss c.table.new.sets c.in_ok-table.table.items) c.list.ensures c.in_ok-table.ensures.table))
      c.in_ok-push.ensures.items;
}
