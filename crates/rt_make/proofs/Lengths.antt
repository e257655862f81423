-- Lengths of the parts of an object.
use Rattle.std.proofs.Common.{◌≡◌, ℕ, ◌+◌, ◌-◌, ◌*◌, List, [], ◌∷◌, length, refl, arith, length-append}
use Rattle.std.proofs.lemmas.List.{length-replicate}
use Rattle.std.specs.List.{flat_map}
use Rattle.byteorder.specs.Numbers.{length-bytes_low_first}
use Rattle.rt_elf.specs.Symbols.{zero_symbol}
use Rattle.rt_elf.specs.declared.reloc.Reloc.{Reloc}
use Rattle.rt_elf.specs.declared.symbol.Symbol.{Symbol}
use Rattle.rt_make.specs.Layout.{strings_end, headers_place}
use Rattle.rt_make.specs.Packed.{half_bytes, word_bytes, words, file_header, reloc_entry, symbol_entry, symbol_entries, name_place, name_string, string_table, section_header, section_headers, packed_parts, packed, object_length}

length-half_bytes : (n : ℕ) → length (half_bytes n) ≡ 2
unfolding half_bytes
length-half_bytes n = length-bytes_low_first 0 2 n

length-word_bytes : (n : ℕ) → length (word_bytes n) ≡ 4
unfolding word_bytes
length-word_bytes n = length-bytes_low_first 0 4 n

length-words : (ns : List ℕ) → length (words ns) ≡ 4 * length ns
length-words [] = refl
length-words (n ∷ ns) =
    let rest = length-words ns in
    let first = length-word_bytes n in
    rw length-append (omega arith)

length-file_header : (place : ℕ) → length (file_header place) ≡ 52
unfolding file_header
length-file_header place = simp (length-append, length-half_bytes, length-word_bytes)

length-relocs : (relocs : List Reloc) → length (flat_map reloc_entry relocs) ≡ 12 * length relocs
unfolding reloc_entry
length-relocs [] = refl
length-relocs (reloc ∷ relocs) =
    let rest = length-relocs relocs in
    simp (length-append, length-word_bytes) (omega arith)

length-symbol_entry : (place : ℕ) (symbol : Symbol) → length (symbol_entry place symbol) ≡ 16
unfolding symbol_entry
length-symbol_entry place symbol = simp (length-append, length-half_bytes, length-word_bytes)

length-symbol_entries : (at : ℕ) (symbols : List Symbol) → length (symbol_entries at symbols) ≡ 16 * length symbols
length-symbol_entries at [] = refl
length-symbol_entries at (symbol ∷ symbols) =
    let rest = length-symbol_entries (at + length (name_string symbol.name)) symbols in
    let first = length-symbol_entry (name_place at symbol.name) symbol in
    rw length-append (omega arith)

length-section_headers : (words relocs symbols strings : ℕ) → length (section_headers words relocs symbols strings) ≡ 200
unfolding section_headers section_header
length-section_headers words relocs symbols strings = simp (length-append, length-word_bytes)

pub length-packed : (code : List ℕ) (symbols : List Symbol) (relocs : List Reloc) → length (packed code symbols relocs) ≡ object_length code symbols relocs
unfolding packed packed_parts
length-packed code symbols relocs =
    let strings = length (string_table symbols) in
    let headers = headers_place (length code) (length relocs) (1 + length symbols) strings in
    let a = length-file_header headers in
    let b = length-words code in
    let c = length-relocs relocs in
    let d = length-symbol_entry 0 zero_symbol in
    let e = length-symbol_entries 1 symbols in
    let f = length-replicate {A = ℕ} (headers - strings_end (length code) (length relocs) (1 + length symbols) strings) 0 in
    let g = length-section_headers (length code) (length relocs) (1 + length symbols) strings in
    omega (arith, length-append {A = ℕ})
