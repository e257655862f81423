use Rattle.std.proofs.Common.{◌≡◌, ◌++◌, take}
use Rattle.std.specs.List.{flat_map}
use Rattle.rt_cdecl.specs.Rows.{rows_text}
use Rattle.rt_cdecl.specs.Texts.{function_rows}
use Rattle.rt_cdecl.proofs.printing.push_functions.Given as goal

abbrev pub invariant-loop-function : goal.invariant-loop-function
invariant-loop-function l = l.out.items ≡ l.fn.out.items ++ rows_text (flat_map function_rows (take l.function-index l.functions))
