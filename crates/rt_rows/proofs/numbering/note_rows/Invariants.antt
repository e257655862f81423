use Rattle.std.proofs.Common.{◌≡◌, flat_map, fold, take}
use Rattle.indexmap.specs.IndexSet.{insert_key}
use Rattle.rt_rows.specs.Terms.{name_eq, row_names}
use Rattle.rt_rows.proofs.numbering.note_rows.Given as goal

abbrev pub invariant-loop-row : goal.invariant-loop-row
invariant-loop-row l = l.names.keys ≡ fold (insert_key name_eq) l.initial.names.keys (flat_map row_names (take l.row-index l.rows))
