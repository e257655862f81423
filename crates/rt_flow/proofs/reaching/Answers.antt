use Rattle.std.proofs.Common.{◌≡◌, ◌<◌, arith, List, [], ℕ, sym, ap, subst, ◌∙◌}
use Rattle.std.specs.Prelude.{slice_index, slice_index_or}
use Rattle.rt_flow.specs.Tables.{IsTable}
use Rattle.rt_flow.proofs.Tabled.{each_table, all_in_sets}
use Rattle.rt_flow.proofs.reaching.Goals as goal

pub invariant_of-result : goal.invariant_of-result
invariant_of-result c = record {
  known = c.in_ok-locations.ensures.classes.within;
  ascending = c.in_ok-locations.ensures.ascending;
  each_class = c.in_ok-tables.ensures.each;
  each_block = each_table c.in_ok-blocks.blocks.firsts.items c.deref.result.now c.block-entry.result c.in_ok-locations.classes c.in_ok-tables.tables.items c.tables.new.sets c.in_ok-tables.ensures.each c.in_ok-tables.ensures.tables;
  in_sets = all_in_sets c.in_ok-blocks.blocks.firsts.items c.deref.result.now c.block-entry.result c.in_ok-locations.classes c.in_ok-tables.tables.items c.tables.new.sets c.in_ok-tables.ensures.each c.in_ok-tables.ensures.tables;
  each_site = c.in_ok-own.ensures.each ∙ c.sites.ensures ∙ sym c.in_ok-blocks.ensures.each;
  few = omega (arith, c.in_ok-own.ensures.each);
  at_each = λ s less. c.in_ok-own.ensures.own s (subst (λ n. s < n) c.in_ok-own.ensures.each less);
}

pub returns : goal.returns
returns c =
    let entry : c.block-entry.result ≡ slice_index c.in_ok-blocks.blocks.block.items c.args.graph.now.entry = c.block-entry.ensures.value ∙ ap (slice_index c.in_ok-blocks.blocks.block.items) c.entry.ensures.value in
    record {
      is_body = c.entry.ensures.good;
      sites = c.in_ok-blocks.ensures.each;
      are_blocks = c.in_ok-blocks.ensures;
      are_classes = c.in_ok-locations.ensures.classes;
      are_tables = (
        c.in_ok-targets.targets.items,
        c.in_ok-targets.ensures,
        λ k less. subst (λ e. IsTable c.in_ok-blocks.blocks.firsts.items c.in_ok-targets.targets.items e (slice_index_or c.in_ok-locations.classes k []) c.tables.new.sets (slice_index_or c.in_ok-tables.tables.items k [])) entry
            (subst (λ (ts : List (List ℕ)). IsTable c.in_ok-blocks.blocks.firsts.items ts c.block-entry.result (slice_index_or c.in_ok-locations.classes k []) c.tables.new.sets (slice_index_or c.in_ok-tables.tables.items k [])) c.deref.ensures.value (c.in_ok-tables.ensures.tables k less)),
      );
    }
