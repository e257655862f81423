-- Table jumps: what they read, and where they lead.
use Rattle.std.specs.Prelude.{◌≡◌, ◌⊎◌, ℕ, pos, ◌+◌, ◌*◌, ◌<◌, ◌^◌, ◌%◌, ◌==◌, ◌&&◌, not, Bool, false, Option, Some, None, List, [], ◌∷◌}
use Rattle.std.specs.Prelude.{◌++◌, length, get_or, if◌then◌else◌}
use Rattle.std.specs.Int.{w32, cast_unsigned}
use Rattle.std.specs.List.{list_any}
use Rattle.std.specs.Option.{option_map, option_and_then}
use Rattle.std.specs.Ordering.{int_eq}
use Rattle.rt_elf.specs.Parts.{Parts as Object}
use Rattle.rt_insn.specs.declared.insn.Insn.{Insn}
use Rattle.rt_insn.specs.declared.insn.Insn.TheVariants.{Jalr, Lw, Addi, Add}
use Rattle.rt_link.specs.declared.link.Link.{Link}
use Rattle.rt_link.specs.declared.link.Link.TheVariants as link
use Rattle.rt_link.specs.declared.place.Place.{Place}
use Rattle.rt_link.specs.declared.pointers.Pointer.{Pointer}
use Rattle.rt_link.specs.Effects.{is_place, symbol_place}
use Rattle.rt_link.specs.Links.{pointer_of}
use Rattle.rt_link.specs.Pointers.{pointer_at, IsNamed}
use Rattle.rt_control.specs.declared.form.Target.{Target}
use Rattle.rt_control.specs.declared.form.Target.TheVariants as target
use Rattle.rt_control.specs.declared.outcome.Outcome.{Outcome}
use Rattle.rt_control.specs.declared.outcome.Outcome.TheVariants.{NoTable, BadTarget, Targets}
use Rattle.rt_control.specs.declared.run.Step.{Step}
use Rattle.rt_control.specs.declared.table.Address.{Address}
use Rattle.rt_control.specs.declared.table.Reading.{Reading}
use Rattle.rt_control.specs.Places.{symbol_target}
use Rattle.rt_control.specs.Runs.{IsRun, writer_of, at}

-- the address whose low bits an ADDI adds
abbrev pub low_of : Insn → Option Link → Option Address
low_of (Addi rd rs1 imm) (Some (link.Low symbol addend)) = Some (record { symbol = symbol; addend = addend })
low_of insn link = None

-- that of the last writer of a register
abbrev pub base_in : ℕ → List Step → Option Address
base_in register steps = option_and_then (λ (found : Step × List Step). low_of found.0.insn found.0.link) (writer_of register steps)

-- exactly one of two
abbrev pub only_one : {X : Type 0} → Option X → Option X → Option X
only_one (Some x) None = Some x
only_one None (Some y) = Some y
only_one first second = None

-- the base of the sum that an ADD writes, where exactly one of its operands is such an address
abbrev pub base_of : Insn → List Step → Option Address
base_of (Add rd x y) before = only_one (base_in x before) (base_in y before)
base_of other before = None

-- what an LW reads, where its address is that of an ADD
abbrev pub reading_of : Insn → List Step → Option Reading
reading_of (Lw rd b k) before =
    option_map (λ (base : Address). record { base = base; distance = k })
    (option_and_then (λ (found : Step × List Step). base_of found.0.insn found.1) (writer_of b before))
reading_of other before = None

-- what a jump through a register reads, where that is loaded
abbrev pub reading_in : ℕ → List Step → Option Reading
reading_in register steps = option_and_then (λ (found : Step × List Step). reading_of found.0.insn found.1) (writer_of register steps)

-- where a table begins: at the symbol with its addend and the load's distance, modulo 2^32
abbrev pub table_place : Object → Reading → Place
table_place object reading = let own = symbol_place object.symbols reading.base.symbol in
    at own.section ((own.offset + cast_unsigned w32 reading.base.addend + cast_unsigned w32 reading.distance) % 2 ^ 32)

-- the place of the entry of a number of a table that begins at a place
abbrev pub entry_place : Place → ℕ → Place
entry_place start i = at start.section (start.offset + 4 * i)

-- the pointer at a place
abbrev pub pointer_of_place : Object → Place → Option Pointer
pointer_of_place object place = option_map pointer_of (pointer_at object place)

-- an entry of a table at a place: the pointer there, which no low bits name but at the table's first place
pub record IsEntry (object : Object) (place : Place) (is_first : Bool) (entry : Pointer) : Type 0 where
  pub stands : pointer_of_place object place ≡ Some entry
  pub unnamed : is_first ≡ false → IsNamed object place → ⊥

-- a table ends before a place: no pointer stands there, or low bits name it, and it isn't the table's first place
abbrev pub IsEnd : Object → Place → Bool → Type 0
IsEnd object place is_first = (pointer_of_place object place ≡ None) ⊎ ((is_first ≡ false) × IsNamed object place)

-- the entries of the table that begins at a place, in steps of 4: they end where a table does, or past the last offset
pub record IsTable (object : Object) (start : Place) (entries : List Pointer) : Type 0 where
  pub each : (i : ℕ) (d : Pointer) → i < length entries → IsEntry object (entry_place start i) (i == 0) (get_or entries i d)
  pub within : (i : ℕ) → i < length entries → (entry_place start i).offset < 2 ^ 32
  pub ends : let next = entry_place start (length entries) in (2 ^ 32 < next.offset + 1) ⊎ IsEnd object next (length entries == 0)

-- the entries of the table of what a jump reads: none where it reads no table
abbrev pub AreEntriesOf : Object → Option Reading → List Pointer → Type 0
AreEntriesOf object None entries = entries ≡ []
AreEntriesOf object (Some reading) entries = IsTable object (table_place object reading) entries

-- the jump at a place through a register reads the table with these entries
pub record IsTableJump (object : Object) (place : Place) (register : ℕ) (entries : List Pointer) : Type 0 where
  pub steps : List Step
  pub is_run : IsRun object place steps
  pub are_entries : AreEntriesOf object (reading_in register steps) entries

-- the register through which an instruction may jump to an entry of a table: r of `jalr x0,0(r)`, neither x0 nor ra
abbrev pub table_register : Option Insn → Option ℕ
table_register (Some (Jalr rd base distance)) =
    if (rd == 0) && not (base == 0) && not (base == 1) && int_eq distance (pos 0) then Some base else None
table_register other = None

-- what stands at a place may jump to these entries of a table
abbrev pub MayJumpTo : Object → Place → Option ℕ → List Pointer → Type 0
MayJumpTo object place None entries = entries ≡ []
MayJumpTo object place (Some register) entries = IsTableJump object place register entries

-- the code that a target is
abbrev pub code_of : Option Target → Option Place
code_of (Some (target.Code place)) = Some place
code_of other = None

-- where an entry leads, if that is code
abbrev pub entry_target : Object → Pointer → Option Place
entry_target object entry = code_of (symbol_target object entry.symbol entry.addend)

-- where entries lead, if all lead to code
abbrev pub entry_targets : Object → List Pointer → Option (List Place)
entry_targets object [] = Some []
entry_targets object (entry ∷ entries) =
    option_and_then (λ (place : Place). option_map (λ (places : List Place). place ∷ places) (entry_targets object entries))
    (entry_target object entry)

-- places, with one more at the end unless it is among them
abbrev pub with_place : List Place → Place → List Place
with_place places place = if list_any (is_place place) places then places else places ++ place ∷ []

-- some places, and after them each further one that is not among those before it
abbrev pub with_places : List Place → List Place → List Place
with_places kept [] = kept
with_places kept (place ∷ places) = with_places (with_place kept place) places

-- what a jump to one of some places comes to
abbrev pub outcome_to : Option (List Place) → Outcome
outcome_to None = BadTarget
outcome_to (Some places) = Targets (with_places [] places)

-- what a jump to an entry of a table comes to: each place that the entries lead to, once, in their order
abbrev pub outcome_of : Object → List Pointer → Outcome
outcome_of object [] = NoTable
outcome_of object (entry ∷ entries) = outcome_to (entry_targets object (entry ∷ entries))
