use Rattle.std.proofs.Common.{◌≡◌, ◌++◌, take, map}
use Rattle.rt_cdecl.specs.Rows.{Typedef, rows_text}
use Rattle.rt_cdecl.proofs.printing.push_typedefs.Given as goal

abbrev pub invariant-loop-kind : goal.invariant-loop-kind
invariant-loop-kind l = l.out.items ≡ l.fn.out.items ++ rows_text (map Typedef (take l.kind-index l.kinds))
