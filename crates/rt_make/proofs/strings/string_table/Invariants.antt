use Rattle.std.proofs.Common.{◌≡◌, take}
use Rattle.rt_make.specs.Packed.{string_table}
use Rattle.rt_make.proofs.strings.string_table.Given as goal

abbrev pub invariant-loop-symbol : goal.invariant-loop-symbol
invariant-loop-symbol l = l.table.items ≡ string_table (take l.symbol-index l.symbols)
