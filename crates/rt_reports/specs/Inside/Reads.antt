-- Reports as lists of their lines, and texts that are read line by line.
use Rattle.std.specs.Prelude.{◌≡◌, ℕ, ◌+◌, ◌≤◌, ◌^◌, ◌⊎◌, List, [], ◌∷◌, ◌++◌, Option, Some, None, All, Contains, map, fold, length}
use Rattle.std.specs.List.{flat_map}
use Rattle.rt_texts.specs.declared.fault.TextFault.{TextFault}
use Rattle.rt_texts.specs.declared.fault.TextFault.TheVariants.{BadText, Memory}
use Rattle.rt_scheme.specs.declared.report.Entry.{Entry}
use Rattle.rt_scheme.specs.declared.report.Report.{Report}
use Rattle.rt_reports.specs.GoodReports.{IsGlobal, IsEntry, numbers_of, entry_numbers}
use Rattle.rt_reports.specs.Inside.Rows.{row_text, IsRow}
use Rattle.rt_reports.specs.Inside.Drafts.{Parts, no_parts, all_entries, parts_globals, least_entry, AllNamed, with_row, Allows}
use Rattle.rt_reports.specs.declared.row.Row.{Row}
use Rattle.rt_reports.specs.declared.row.Row.TheVariants.{Listed, Heading, Stated, End}

-- the text of lines
abbrev pub rows_text : List (List ℕ) → List Row → List ℕ
rows_text names rows = flat_map (λ (row : Row). row_text names row ++ 10 ∷ []) rows

-- the lines of a report
abbrev pub heading_row : Entry → Row
heading_row entry = Heading entry.number entry.place entry.name

abbrev pub listed_rows : List (ℕ × List ℕ) → List Row
listed_rows globals = map (λ (g : ℕ × List ℕ). Listed g.0 g.1) globals

abbrev pub entry_rows : Entry → List Row
entry_rows entry = heading_row entry ∷ (map Stated entry.lines ++ End ∷ [])

abbrev pub report_rows : Report → List Row
report_rows report = listed_rows report.globals ++ flat_map entry_rows report.entries

-- those of what was read
abbrev pub unfinished_rows : Option Entry → List Row
unfinished_rows None = []
unfinished_rows (Some entry) = heading_row entry ∷ map Stated entry.lines

abbrev pub parts_rows : Parts → List Row
parts_rows parts = listed_rows parts.globals ++ (flat_map entry_rows parts.entries ++ unfinished_rows parts.unfinished)

-- each number is at least the one that is left after those before it
abbrev pub RisesFrom : ℕ → List ℕ → Type 0
RisesFrom low [] = Unit {0}
RisesFrom low (n ∷ ns) = (low ≤ n) × RisesFrom (n + 1) ns

-- the parts are in range, their numbers rise, each global that is named is listed, and where no number is left each that is listed is named
pub record IsGood (count : ℕ) (parts : Parts) : Type 0 where
  pub globals : All IsGlobal parts.globals
  pub entries : All (IsEntry count) (all_entries parts.entries parts.unfinished)
  pub globals_rise : RisesFrom 0 (numbers_of parts.globals)
  pub entries_rise : RisesFrom 0 (entry_numbers (all_entries parts.entries parts.unfinished))
  pub listed : All (Contains (numbers_of parts.globals)) (parts_globals parts)
  pub full : parts.unfinished ≡ None → 2 ^ 32 ≤ least_entry parts → AllNamed parts

-- good parts stand before the rest of a text, which begins with the line of this number
pub record IsRead (names : List (List ℕ)) (text : List ℕ) (parts : Parts) (rest : List ℕ) (number : ℕ) : Type 0 where
  pub good : IsGood (length names) parts
  pub again : fold with_row no_parts (parts_rows parts) ≡ parts
  pub joined : rows_text names (parts_rows parts) ++ rest ≡ text
  pub counted : length (parts_rows parts) + 1 ≡ number

-- a line with which a report's text goes on is that of a line that may follow
pub record IsAllowed (names : List (List ℕ)) (parts : Parts) (line : List ℕ) : Type 0 where
  pub row : Row
  pub good : IsRow (length names) row
  pub is : row_text names row ≡ line
  pub allowed : Allows parts row

-- a line is read: the parts are those with a line that has this text and may follow
pub record Takes (names : List (List ℕ)) (parts : Parts) (line : List ℕ) (after : Parts) : Type 0 where
  pub allows : IsAllowed names parts line
  pub after_is : after ≡ with_row parts allows.row

-- why a line is not read: it is none with which a report's text goes on; memory may run out
abbrev pub IsLineFault : List (List ℕ) → Parts → List ℕ → TextFault → Type 0
IsLineFault names parts line fault = (fault ≡ Memory) ⊎ ((fault ≡ BadText 0) × (IsAllowed names parts line → ⊥))

-- a fault of a line, with the line's number
abbrev pub placed : ℕ → TextFault → TextFault
placed number (BadText n) = BadText number
placed number Memory = Memory
