use Rattle.std.proofs.Common.{◌≡◌, None, refl, arith}
use Rattle.std.proofs.lemmas.Grind.{common_steps}
use Rattle.rt_elf.specs.Object.{IsObject}
use Rattle.rt_elf.specs.Parts.{Parts}
use Rattle.rt_elf.specs.Sections.{sections_of}
use Rattle.rt_elf.specs.Symbols.{symbol_table, symbol_part_fault, symbols_of}
use Rattle.rt_elf.proofs.Reading.{sound}
use Rattle.rt_elf.proofs.reader.read.Goals as goal

pub invariant_of-result : goal.invariant_of-result
invariant_of-result c =
    let object : Parts = record { sections = c.in_ok-sections.sections; symbols = c.in_ok-symbols.symbols; relocs = c.in_ok-relocs.relocs; bytes = c.from_vec-bytes.result } in
    let symbols : object.symbols ≡ symbols_of c.args.bytes.now = rw (c.in_ok-symbols.ensures.found, c.items-2.ensures, c.in_ok-sections.ensures.found) refl in
    let is : IsObject c.args.bytes.now object = record { sections = c.in_ok-sections.ensures.found; symbols = symbols; relocs = c.in_ok-relocs.ensures.found; bytes_kept = grind (arith, common_steps) } in
    let placed : symbol_part_fault c.args.bytes.now (sections_of c.args.bytes.now) (symbol_table (sections_of c.args.bytes.now)) ≡ None =
    rw (c.items-2.ensures, c.in_ok-sections.ensures.found) at c.in_ok-symbols.ensures.none in
    sound c.args.bytes.now _ _ object is c.in_ok-sections.ensures.within c.len.ensures c.in_ok-relocs.ensures.none placed c.in_ok-sections.ensures.few c.in_ok-symbols.ensures.few
    c.in_ok-check_header.ensures.table.short

pub returns-clause-sound : goal.returns-clause-sound
returns-clause-sound c =
    let object : Parts = record { sections = c.in_ok-sections.sections; symbols = c.in_ok-symbols.symbols; relocs = c.in_ok-relocs.relocs; bytes = c.from_vec-bytes.result } in
    let symbols : object.symbols ≡ symbols_of c.args.bytes.now = rw (c.in_ok-symbols.ensures.found, c.items-2.ensures, c.in_ok-sections.ensures.found) refl in
    let is : IsObject c.args.bytes.now object = record { sections = c.in_ok-sections.ensures.found; symbols = symbols; relocs = c.in_ok-relocs.ensures.found; bytes_kept = grind (arith, common_steps) } in
    let placed : symbol_part_fault c.args.bytes.now (sections_of c.args.bytes.now) (symbol_table (sections_of c.args.bytes.now)) ≡ None =
    rw (c.items-2.ensures, c.in_ok-sections.ensures.found) at c.in_ok-symbols.ensures.none in
    sound c.args.bytes.now _ _ object is c.in_ok-sections.ensures.within c.len.ensures c.in_ok-relocs.ensures.none placed c.in_ok-sections.ensures.few c.in_ok-symbols.ensures.few
    c.in_ok-check_header.ensures.table.short
