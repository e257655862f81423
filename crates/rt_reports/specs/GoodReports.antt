-- Well formed reports.
use Rattle.std.specs.Prelude.{ℕ, ◌<◌, ◌^◌, ◌↔◌, List, All, Contains, map}
use Rattle.std.specs.List.Sorted.{IsStrictlyIncreasing}
use Rattle.rt_texts.specs.Goods.{IsNumber, IsLine}
use Rattle.rt_scheme.specs.declared.report.Place2.{Place2}
use Rattle.rt_scheme.specs.declared.report.Entry.{Entry}
use Rattle.rt_scheme.specs.declared.report.Report.{Report}
use Rattle.rt_scheme.specs.NameReadings.{AreBytes}
use Rattle.rt_reports.specs.Globals.{entries_globals}

-- a global: a number below 2^32, and a name
abbrev pub IsGlobal : ℕ × List ℕ → Type 0
IsGlobal (number, name) = IsNumber number × AreBytes name

-- a section's number below 2^16, and an offset below 2^32
abbrev pub IsPlace : Place2 → Type 0
IsPlace place = (place.section < 2 ^ 16) × IsNumber place.offset

-- an entry of such parts, whose lines have constants below the count
pub record IsEntry (count : ℕ) (entry : Entry) : Type 0 where
  pub number : IsNumber entry.number
  pub place : IsPlace entry.place
  pub name : AreBytes entry.name
  pub lines : All (IsLine count) entry.lines

-- the numbers of globals
abbrev pub numbers_of : List (ℕ × List ℕ) → List ℕ
numbers_of globals = map (λ (g : ℕ × List ℕ). g.0) globals

-- the numbers of entries
abbrev pub entry_numbers : List Entry → List ℕ
entry_numbers entries = map (λ (entry : Entry). entry.number) entries

-- a report of such parts: its entries rise, and its globals are exactly those that its lines name, ascending
pub record IsReport (count : ℕ) (report : Report) : Type 0 where
  pub globals : All IsGlobal report.globals
  pub entries : All (IsEntry count) report.entries
  pub globals_rise : IsStrictlyIncreasing (numbers_of report.globals)
  pub entries_rise : IsStrictlyIncreasing (entry_numbers report.entries)
  pub exact : (number : ℕ) → Contains (numbers_of report.globals) number ↔ Contains (entries_globals report.entries) number
