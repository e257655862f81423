-- Which symbols end paths: calls of them have no continuation.
use Rattle.std.specs.Prelude.{◌==◌, ◌&&◌, not, ℕ, Bool, List, length}
use Rattle.std.specs.List.{filter, range_with_len}
use Rattle.rt_elf.specs.Parts.{Parts as Object}
use Rattle.rt_elf.specs.declared.symbol.Symbol.{Symbol}
use Rattle.rt_body.specs.Symbols.{symbol_of}
use Rattle.rt_sigs.specs.Signatures.{Signature, returns_of}

-- the symbol is undefined, SHN_UNDEF, and its signature says that its function doesn't return
abbrev pub is_end : List Signature → Symbol → Bool
is_end signatures symbol = (symbol.section == 0) && not (returns_of signatures symbol.name)

-- the numbers of an object's symbols of which this holds, ascending
abbrev pub ends_of : Object → List Signature → List ℕ
ends_of object signatures = filter (λ n. is_end signatures (symbol_of object n)) (range_with_len 0 (length object.symbols))
