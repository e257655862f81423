use Rattle.std.proofs.Common.{take}
use Rattle.std.specs.List.{flat_map}
use Rattle.rt_cdecl.specs.GoodDecls.{function_types}
use Rattle.rt_cdecl.specs.Lines.{Gains}
use Rattle.rt_cdecl.proofs.lines.note_functions.Given as goal

abbrev pub invariant-loop-function : goal.invariant-loop-function
invariant-loop-function l = Gains l.fn.lines l.lines (flat_map function_types (take l.function-index l.functions))
