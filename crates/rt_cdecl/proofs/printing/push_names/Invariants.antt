use Rattle.std.proofs.Common.{◌≡◌, ◌++◌, take, map}
use Rattle.rt_cdecl.specs.Rows.{Named, rows_text}
use Rattle.rt_cdecl.specs.declared.declarations.CStruct.{CStruct}
use Rattle.rt_cdecl.proofs.printing.push_names.Given as goal

abbrev pub invariant-loop-item : goal.invariant-loop-item
invariant-loop-item l = l.out.items ≡ l.fn.out.items ++ rows_text (map (λ (s : CStruct). Named s.number) (take l.item-index l.structs))
