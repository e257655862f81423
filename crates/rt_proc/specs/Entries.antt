-- The entries of procedures.
use Rattle.std.specs.Prelude.{◌≡◌, ℕ, ◌==◌, ◌&&◌, not, Bool, IsTrue, Ok, Contains, List, ◌++◌}
use Rattle.rt_elf.specs.Parts.{Parts as Object}
use Rattle.rt_elf.specs.declared.symbol.Symbol.{Symbol}
use Rattle.rt_elf.specs.Object.{section_of}
use Rattle.rt_elf.specs.Sections.{is_code_section}
use Rattle.rt_elf.specs.Symbols.{is_special}
use Rattle.rt_link.specs.declared.place.Place.{Place}
use Rattle.rt_control.specs.declared.form.Form.{Form}
use Rattle.rt_control.specs.Places.{is_good}
use Rattle.rt_proc.specs.Ends.{IsLookAt}
use Rattle.rt_proc.specs.Steps.{steps, callees}
use Rattle.rt_proc.specs.Walks.{Walk}

-- SHN_UNDEF, SHN_ABS, SHN_COMMON: the symbol is of no section (ELF gABI, "Special Section Indexes")
abbrev pub has_no_section : Symbol → Bool
has_no_section symbol = is_special symbol.section

-- a function of an executable section, STT_FUNC (ELF gABI, "Symbol Table")
abbrev pub is_function : Object → Symbol → Bool
is_function object symbol = (symbol.kind == 2) && not (has_no_section symbol) && is_code_section (section_of object symbol.section)

-- the place of a symbol
abbrev pub place_of : Symbol → Place
place_of symbol = record { section = symbol.section; offset = symbol.value }

-- a function stands at a place, which is good
pub record IsFunction (object : Object) (place : Place) : Type 0 where
  pub symbol : Symbol
  pub stands : Contains object.symbols symbol
  pub is_function : IsTrue (is_function object symbol)
  pub is_there : place_of symbol ≡ place
  pub is_good : IsTrue (is_good object place)

-- the site at a place has no fault, and it steps to the other place or calls it
pub record LeadsTo (object : Object) (ends : List ℕ) (from to : Place) : Type 0 where
  pub form : Form
  pub is_at : IsLookAt object ends from (Ok form)
  pub leads : Contains (steps form ++ callees form) to

-- the site at a place has no fault, and it calls the other place
pub record Calls (object : Object) (ends : List ℕ) (from to : Place) : Type 0 where
  pub form : Form
  pub is_at : IsLookAt object ends from (Ok form)
  pub calls : Contains (callees form) to

-- what is reached from functions by steps and calls
abbrev pub IsReached : Object → List ℕ → Place → Type 0
IsReached object ends place = Walk (IsFunction object) (LeadsTo object ends) place

-- an entry: a function, or what a site that is reached calls
pub data IsEntry (object : Object) (ends : List ℕ) (place : Place) : Type 0 where
  of_function : IsFunction object place → IsEntry object ends place
  of_call : (from : Place) → IsReached object ends from → Calls object ends from place → IsEntry object ends place

-- one of some sites calls the place
pub record IsCalledFrom (object : Object) (ends : List ℕ) (places : List Place) (to : Place) : Type 0 where
  pub from : Place
  pub is_among : Contains places from
  pub calls : Calls object ends from to
