use Rattle.std.proofs.Common.{◌≡◌, ◌+◌, ◌++◌, length, drop}
use Rattle.rt_make.specs.Packed.{symbol_entries, string_table}
use Rattle.rt_make.proofs.packing.push_symbols.Given as goal

abbrev pub invariant-loop-symbol : goal.invariant-loop-symbol
invariant-loop-symbol l = record {
  entries : l.out.items ++ symbol_entries l.at (drop l.symbol-index l.symbols) ≡ l.initial.out.items ++ symbol_entries 1 l.symbols;
  place : l.at + length (string_table (drop l.symbol-index l.symbols)) ≡ 1 + length (string_table l.symbols);
}
