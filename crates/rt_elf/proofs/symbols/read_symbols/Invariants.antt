use Rattle.std.proofs.Common.{ℕ, ◌+◌, ◌*◌}
use Rattle.rt_base.proofs.Entries.{IsGoing}
use Rattle.rt_elf.specs.Symbols.{symbol_at, symbol_fault, symbols_fault, symbol_list}
use Rattle.rt_elf.proofs.symbols.read_symbols.Given as goal

abbrev pub invariant-loop-index : goal.invariant-loop-index
invariant-loop-index l =
    IsGoing
    (λ (k : ℕ). symbol_fault l.bytes l.strings (l.place + 16 * k))
    (λ (k : ℕ). symbol_at l.bytes l.strings (l.place + 16 * k))
    l.count l.index l.symbols
    (symbols_fault l.bytes l.strings l.place l.count) (symbol_list l.bytes l.strings l.place l.count)
