use Rattle.std.proofs.Common.{refl}
use Rattle.rt_elf.proofs.Reading.{kind-within}
use Rattle.rt_elf.proofs.symbols.symbols_of_table.Goals as goal

pub section_by-requires-clause-there : goal.section_by-requires-clause-there
section_by-requires-clause-there c =
    rw c.section_by-table.ensures (kind-within _ 3 _ c.requires.within c.in_ok-check_symbol_table.ensures.strings refl).0

pub bytes_of-strings-requires : goal.bytes_of-strings-requires
bytes_of-strings-requires c =
    rw (c.section_by.ensures, c.section_by-table.ensures) (kind-within _ 3 _ c.requires.within c.in_ok-check_symbol_table.ensures.strings refl).1
