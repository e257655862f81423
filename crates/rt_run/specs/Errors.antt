-- The lines on the stream for errors.
use Rattle.std.specs.Prelude.{ℕ, List, [], ◌++◌, codes, decimal, if◌then◌else◌, ◌==◌}
use Rattle.rt_scheme.specs.NameTexts.{name_text}
use Rattle.rt_run.specs.declared.refusal.ObjectFault.{ObjectFault}
use Rattle.rt_run.specs.declared.refusal.ObjectFault.TheVariants.{Bytes, Relocation, Code}
use Rattle.rt_run.specs.declared.refusal.Refusal.{Refusal}
use Rattle.rt_run.specs.declared.refusal.Refusal.TheVariants.{Object, BadLattice, BadSignatures, TextTooLarge, BadLine, BadJudgement}
use Rattle.rt_lattice.specs.declared.fault.LatFault.{LatFault}
use Rattle.rt_lattice.specs.declared.fault.LatFault.TheVariants as lattice
use Rattle.rt_lattice.specs.Roles.{role_key}
use Rattle.rt_sigs.specs.declared.fault.SigFault.{SigFault}
use Rattle.rt_sigs.specs.declared.fault.SigFault.TheVariants as signatures

-- the name of a refusal, by its number
abbrev pub refusal_name : ℕ → List ℕ
refusal_name number =
    if number == 1 then codes "Short" else
    if number == 2 then codes "Magic" else
    if number == 3 then codes "Class" else
    if number == 4 then codes "Endian" else
    if number == 5 then codes "Kind" else
    if number == 6 then codes "Machine" else
    if number == 7 then codes "Flags" else
    if number == 8 then codes "SectionTable" else
    if number == 9 then codes "SectionRange" else
    if number == 10 then codes "SymbolTable" else
    if number == 11 then codes "Name" else
    if number == 12 then codes "SymbolSection" else
    if number == 13 then codes "RelocTable" else
    if number == 14 then codes "RelocSymbol" else
    if number == 15 then codes "Compressed" else
    if number == 16 then codes "TooLarge" else
    if number == 20 then codes "RelocType" else
    if number == 21 then codes "RelocPlace" else
    if number == 22 then codes "TwoRelocs" else
    if number == 23 then codes "LoneLow" else
    if number == 24 then codes "CallPair" else
    if number == 30 then codes "Illegal" else
    if number == 31 then codes "BadTarget" else
    if number == 32 then codes "FallsOff" else
    if number == 33 then codes "IndirectJump" else
    if number == 40 then codes "NotToml" else
    if number == 41 then codes "Shape" else
    if number == 42 then codes "Unknown" else
    if number == 43 then codes "Cycle" else
    if number == 44 then codes "NoTop" else
    if number == 45 then codes "NoBottom" else
    if number == 46 then codes "NoJoin" else
    if number == 48 then codes "NoRole" else
    if number == 49 then codes "TooMany" else
    if number == 50 then codes "BadLine" else
    if number == 51 then codes "UnknownConst" else
    if number == 52 then codes "Twice" else
    if number == 53 then codes "TooLarge" else
    if number == 54 then codes "Args" else
    if number == 61 then codes "BadText" else
    if number == 62 then codes "BadText" else
    if number == 63 then codes "TextTooLarge" else codes "None"

-- the number and the name of a refusal
abbrev pub number_text : ℕ → List ℕ
number_text number = codes "error " ++ decimal number ++ codes " " ++ refusal_name number

-- a byte of the input
abbrev pub byte_text : ℕ → List ℕ
byte_text byte = codes " at " ++ decimal byte ++ codes "\n"

-- the index of a section
unfoldable pub section_text : ℕ → List ℕ
section_text section = codes " at section " ++ decimal section

-- an offset in a section
unfoldable pub offset_text : ℕ → List ℕ
offset_text offset = codes " offset " ++ decimal offset ++ codes "\n"

-- a place of a section
abbrev pub place_text : ℕ → ℕ → List ℕ
place_text section offset = section_text section ++ offset_text offset

-- the line of a refusal that has no place
abbrev pub plain_line : ℕ → List ℕ
plain_line number = number_text number ++ codes "\n"

-- a name that a file has, behind something
abbrev pub name_after : List ℕ → List ℕ
name_after name = codes " " ++ name_text name

-- the line of a refusal about a name that a file has
abbrev pub named_line : ℕ → List ℕ → List ℕ
named_line number name = number_text number ++ name_after name ++ codes "\n"

-- the line of a refusal about a line of a file, by its number, from 1
abbrev pub numbered_line : ℕ → ℕ → List ℕ
numbered_line number at = number_text number ++ codes " " ++ decimal at ++ codes "\n"

-- the line of a fault of a lattice file; out of memory is none
abbrev pub lattice_line : LatFault → List ℕ
lattice_line lattice.NotToml = plain_line 40
lattice_line (lattice.Shape key) = named_line 41 key
lattice_line (lattice.Unknown name) = named_line 42 name
lattice_line (lattice.Cycle name) = named_line 43 name
lattice_line lattice.NoTop = plain_line 44
lattice_line lattice.NoBottom = plain_line 45
lattice_line (lattice.NoJoin first second) = number_text 46 ++ name_after first ++ name_after second ++ codes "\n"
lattice_line (lattice.NoRole role) = number_text 48 ++ codes " " ++ role_key role ++ codes "\n"
lattice_line lattice.TooMany = plain_line 49
lattice_line lattice.Memory = []

-- the line of a fault of a file of signatures
abbrev pub signatures_line : SigFault → List ℕ
signatures_line (signatures.BadLine number) = numbered_line 50 number
signatures_line (signatures.UnknownConst number) = numbered_line 51 number
signatures_line (signatures.Twice number) = numbered_line 52 number
signatures_line signatures.TooLarge = plain_line 53
signatures_line (signatures.Args number) = numbered_line 54 number
signatures_line signatures.Memory = []

-- the line of a fault of an object
abbrev pub object_line : ObjectFault → List ℕ
object_line (Bytes number byte) = number_text number ++ byte_text byte
object_line (Relocation number section offset) = number_text number ++ place_text section offset
object_line (Code number section offset) = number_text number ++ place_text section offset

-- the line of a refusal
abbrev pub refusal_line : Refusal → List ℕ
refusal_line (Object fault) = object_line fault
refusal_line (BadLattice fault) = lattice_line fault
refusal_line (BadSignatures fault) = signatures_line fault
refusal_line (BadLine byte) = number_text 61 ++ byte_text byte
refusal_line BadJudgement = plain_line 62
refusal_line TextTooLarge = plain_line 63

-- the line of a file that wasn't read
abbrev pub read_line : List ℕ → List ℕ
read_line name = codes "error read " ++ name_text name ++ codes "\n"

abbrev pub write_line : List ℕ
write_line = codes "error write\n"

abbrev pub memory_line : List ℕ
memory_line = codes "error memory\n"

abbrev pub usage_line : List ℕ
usage_line = codes "usage: retypd COMMAND [--lattice FILE] [--signatures FILE] ARGUMENTS\n"
