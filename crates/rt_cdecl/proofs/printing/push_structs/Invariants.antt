use Rattle.std.proofs.Common.{◌≡◌, ◌++◌, take}
use Rattle.std.specs.List.{flat_map}
use Rattle.rt_cdecl.specs.Rows.{rows_text}
use Rattle.rt_cdecl.specs.Texts.{struct_rows}
use Rattle.rt_cdecl.proofs.printing.push_structs.Given as goal

abbrev pub invariant-loop-item : goal.invariant-loop-item
invariant-loop-item l = l.out.items ≡ l.fn.out.items ++ rows_text (flat_map struct_rows (take l.item-index l.structs))
