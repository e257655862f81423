-- The globals that a report names.
use Rattle.std.specs.Prelude.{◌≡◌, ◌↔◌, ℕ, ◌<◌, List, All, Contains, map, length}
use Rattle.std.specs.List.Sorted.{IsStrictlyIncreasing}
use Rattle.rt_lines.specs.declared.variable.Base.TheVariants.{Global}
use Rattle.rt_rules.specs.Laws.{NamesBase}
use Rattle.rt_elf.specs.Parts.{Parts as Object}
use Rattle.rt_body.specs.Symbols.{symbol_of}
use Rattle.rt_scheme.specs.declared.report.Entry.{Entry}

-- some entry's lines name the global of a number
pub record IsNamedIn (entries : List Entry) (number : ℕ) : Type 0 where
  pub entry : Entry
  pub is_entry : Contains entries entry
  pub names : NamesBase entry.lines (Global number)

-- a global: its number, and the name of its symbol
abbrev pub global_of : Object → ℕ → ℕ × List ℕ
global_of object number = (number, (symbol_of object number).name)

-- the globals of entries: those that they name, ascending, each a symbol of the object and by its name
pub record AreGlobals (object : Object) (entries : List Entry) (shown : List (ℕ × List ℕ)) : Type 0 where
  pub numbers : List ℕ
  pub ascending : IsStrictlyIncreasing numbers
  pub named : (number : ℕ) → Contains numbers number ↔ IsNamedIn entries number
  pub symbols : All (λ number. number < length object.symbols) numbers
  pub globals : shown ≡ map (global_of object) numbers
