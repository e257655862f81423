-- What the text of the standard lattice says.
use Rattle.std.proofs.Common.{◌≡◌, ◌≢◌, ℕ, inl, inr, Option, Some, None, option_map, List, length, codes, IsUtf8, refl, subst, lit≤, ◌≤◌, arith}
use Rattle.std.specs.Option.{option_and_then}
use Rattle.std.proofs.lemmas.Option.{same_Some}
use Rattle.toml.specs.Data.{Members}
use Rattle.toml.specs.Parse.{parse_document}
use Rattle.toml.proofs.OnLiterals.{toml_on_literals}
use Rattle.rt_lattice.specs.declared.fault.LatFault.{LatFault}
use Rattle.rt_lattice.specs.declared.fault.LatFault.TheVariants.{Memory}
use Rattle.rt_lattice.specs.declared.file.File.{File}
use Rattle.rt_lattice.specs.Closures.{unknown_name, missing_role}
use Rattle.rt_lattice.specs.Faults.{IsFirstFault, is_too_long, is_not_toml, is_of_form, is_of_file, IsFileFault, IsLatticeIn, form_fault}
use Rattle.rt_lattice.specs.Files.{IsTable, SaysFile, names_at, below_at, roles_at}
use Rattle.rt_lattice.specs.Lattices.{NamedOrder, IsLatticeOf}
use Rattle.rt_lattice.specs.Standard.{standard_names, standard_below, standard_roles, standard_file}
use Rattle.rt_lattice.proofs.Faulty.{is_memory}
use Rattle.rt_lattice.proofs.StandardOrder.{standard_order}
use Rattle.rt_lattice.proofs.Unique.{one_file, no_file_fault}

abbrev pub text : List ℕ
text = codes "names = [\n    \"any\", \"num32\", \"int32\", \"int16\", \"int8\", \"uint32\", \"uint16\", \"uint8\",\n    \"bool\", \"code\", \"str\", \"none\",\n]\nbelow = [\n    [\"num32\", \"any\"], [\"int32\", \"num32\"], [\"int16\", \"int32\"], [\"int8\", \"int16\"],\n    [\"bool\", \"int8\"], [\"uint32\", \"num32\"], [\"uint16\", \"uint32\"], [\"uint8\", \"uint16\"],\n    [\"bool\", \"uint8\"], [\"code\", \"any\"], [\"str\", \"any\"], [\"none\", \"bool\"],\n    [\"none\", \"code\"], [\"none\", \"str\"],\n]\n[roles]\nnum32 = \"num32\"\nsint32 = \"int32\"\nuint32 = \"uint32\"\nsint16 = \"int16\"\nuint16 = \"uint16\"\nsint8 = \"int8\"\nuint8 = \"uint8\"\nbool = \"bool\"\ncode = \"code\"\n"

names_are : option_and_then names_at (parse_document text) ≡ Some standard_names
unfolding toml_on_literals
names_are = refl

below_are : option_and_then below_at (parse_document text) ≡ Some standard_below
unfolding toml_on_literals
below_are = refl

roles_are : option_and_then roles_at (parse_document text) ≡ Some standard_roles
unfolding toml_on_literals
roles_are = refl

form_is : option_map form_fault (parse_document text) ≡ Some None
unfolding toml_on_literals
form_is = refl

known : unknown_name standard_file ≡ None
known = refl

told_roles : missing_role standard_file ≡ None
told_roles = refl

says_standard : (table : Members) → IsTable text table → SaysFile table standard_file
says_standard table is =
    record {
      names = rw is.parsed at names_are;
      below = rw is.parsed at below_are;
      roles = rw is.parsed at roles_are;
    }

-- the lattice that the text says is that of the file
pub standard_in : (lattice : NamedOrder) → IsLatticeIn text lattice → IsLatticeOf standard_file lattice
standard_in lattice says = subst (λ (f : File). IsLatticeOf f lattice) (one_file says.table says.file standard_file says.says (says_standard says.table says.is_table)) says.says_lattice

short : length text ≤ 65536
short = lit≤ tt

read_of : (parsed : Option Members) → option_map form_fault parsed ≡ Some None → (table : Members) × (parsed ≡ Some table)
read_of None e = cc
read_of (Some table) e = (table, refl)

-- the text has no fault
no_standard_fault : (fault : LatFault) → IsUtf8 text → IsFirstFault text fault → ⊥
no_standard_fault _ utf8 (is_too_long long) = omega (arith, short)
no_standard_fault _ utf8 (is_not_toml few none) = let (table, parsed) = read_of (parse_document text) form_is in none table (record { short = short; utf8 = utf8; parsed = parsed })
no_standard_fault _ utf8 (is_of_form table fault is found) = let e = same_Some _ _ (rw is.parsed at form_is) in cc
no_standard_fault _ utf8 (is_of_file table file fault is form says h) =
    let same : file ≡ standard_file = one_file table file standard_file says (says_standard table is) in
    no_file_fault standard_file fault known standard_order told_roles (subst (λ (f : File). IsFileFault f fault) same h)

-- a fault of the text can only be out of memory
pub only_memory : (fault : LatFault) → IsUtf8 text → (fault ≢ Memory → IsFirstFault text fault) → fault ≡ Memory
only_memory fault utf8 may =
    elim (is_memory fault) [
      | inl memory ↦ memory
      | inr other ↦ absurd (no_standard_fault fault utf8 (may other))
    ]
