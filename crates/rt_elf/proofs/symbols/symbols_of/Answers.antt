use Rattle.std.proofs.Common.{sym}
use Rattle.rt_elf.proofs.Reading.{symbol_table-kind}
use Rattle.rt_elf.proofs.symbols.symbols_of.Goals as goal

pub symbols_of_table-requires-clause-is_table : goal.symbols_of_table-requires-clause-is_table
symbols_of_table-requires-clause-is_table c =
    symbol_table-kind c.args.bytes.now c.args.sections.now c.in-Some.index c.requires.sections (sym c.in-Some.ensures)
