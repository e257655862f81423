-- Reports that are read in part, and which line may follow.
use Rattle.std.specs.Prelude.{◌≡◌, ℕ, ◌+◌, ◌≤◌, ◌^◌, ◌⊎◌, List, [], ◌∷◌, ◌++◌, Option, Some, None, All, Contains, Result, MatchResult}
use Rattle.std.specs.Prelude.{fold, nat_eq}
use Rattle.indexmap.specs.IndexSet.{insert_key}
use Rattle.rt_lines.specs.declared.line.Line.{Line}
use Rattle.rt_texts.specs.declared.fault.TextFault.{TextFault}
use Rattle.rt_texts.specs.declared.fault.TextFault.TheVariants.{BadText, Memory}
use Rattle.rt_scheme.specs.declared.report.Entry.{Entry}
use Rattle.rt_scheme.specs.declared.report.Report.{Report}
use Rattle.rt_reports.specs.Globals.{line_globals, entries_globals}
use Rattle.rt_reports.specs.GoodReports.{numbers_of, entry_numbers}
use Rattle.rt_reports.specs.declared.row.Row.{Row}
use Rattle.rt_reports.specs.declared.draft.Draft.{Draft}
use Rattle.rt_reports.specs.declared.row.Row.TheVariants.{Listed, Heading, Stated, End}

-- what was read: the globals, the entries with their ends, and the entry whose end is still to come
pub record Parts : Type 0 where
  pub globals : List (ℕ × List ℕ)
  pub entries : List Entry
  pub unfinished : Option Entry

-- nothing was read
abbrev pub no_parts : Parts
no_parts = record { globals = []; entries = []; unfinished = None }

-- the entries, with the one whose end is still to come
abbrev pub all_entries : List Entry → Option Entry → List Entry
all_entries entries None = entries
all_entries entries (Some entry) = entries ++ entry ∷ []

-- the numbers of the globals that the lines name
abbrev pub parts_globals : Parts → List ℕ
parts_globals parts = entries_globals (all_entries parts.entries parts.unfinished)

-- the least number that ascending numbers go on with
abbrev pub least_after : ℕ → List ℕ → ℕ
least_after low [] = low
least_after low (n ∷ ns) = least_after (n + 1) ns

abbrev pub least_global : Parts → ℕ
least_global parts = least_after 0 (numbers_of parts.globals)

abbrev pub least_entry : Parts → ℕ
least_entry parts = least_after 0 (entry_numbers (all_entries parts.entries parts.unfinished))

-- the lines name each global
abbrev pub AllNamed : Parts → Type 0
AllNamed parts = All (Contains (parts_globals parts)) (numbers_of parts.globals)

-- an entry with one line more
abbrev pub with_line : Entry → Line → Entry
with_line entry line = record { number = entry.number; place = entry.place; name = entry.name; lines = entry.lines ++ line ∷ [] }

abbrev pub unfinished_with : Option Entry → Line → Option Entry
unfinished_with None line = None
unfinished_with (Some entry) line = Some (with_line entry line)

-- what was read, with one line more
abbrev pub with_row : Parts → Row → Parts
with_row parts (Listed number name) = record
    { globals = parts.globals ++ (number, name) ∷ []; entries = parts.entries; unfinished = parts.unfinished }
with_row parts (Heading number place name) =
    record {
      globals = parts.globals;
      entries = parts.entries;
      unfinished = Some (record { number = number; place = place; name = name; lines = [] });
    }
with_row parts (Stated line) = record {
  globals = parts.globals;
  entries = parts.entries;
  unfinished = unfinished_with parts.unfinished line;
}
with_row parts End = record { globals = parts.globals; entries = all_entries parts.entries parts.unfinished; unfinished = None }

-- an entry's end is still to come
abbrev pub IsUnfinished : Option Entry → Type 0
IsUnfinished None = ⊥
IsUnfinished (Some entry) = Unit {0}

-- The line may follow. Globals stand first, and numbers rise; a line stands in an entry and names listed globals; the end of an
-- entry after whose number none is left leaves no global without a line that names it.
abbrev pub Allows : Parts → Row → Type 0
Allows parts (Listed number name) = (parts.unfinished ≡ None) × (parts.entries ≡ []) × (least_global parts ≤ number)
Allows parts (Heading number place name) = (parts.unfinished ≡ None) × (least_entry parts ≤ number)
Allows parts (Stated line) = IsUnfinished parts.unfinished × All (Contains (numbers_of parts.globals)) (line_globals line)
Allows parts End = IsUnfinished parts.unfinished × (2 ^ 32 ≤ least_entry parts → AllNamed parts)

-- the parts are those of a report
abbrev pub IsWhole : Parts → Type 0
IsWhole parts = (parts.unfinished ≡ None) × AllNamed parts

abbrev pub report_of : Parts → Report
report_of parts = record { globals = parts.globals; entries = parts.entries }

-- the numbers and the least next number that are kept with globals
pub record IsListing (globals : List (ℕ × List ℕ)) (numbers : List ℕ) (least : ℕ) : Type 0 where
  pub numbered : numbers ≡ fold (insert_key nat_eq) [] (numbers_of globals)
  pub risen : least ≡ least_after 0 (numbers_of globals)

-- the numbers of globals and the least next number that are kept with entries
pub record IsDraft (entries : List Entry) (unfinished : Option Entry) (named : List ℕ) (least : ℕ) : Type 0 where
  pub named_are : named ≡ fold (insert_key nat_eq) [] (entries_globals (all_entries entries unfinished))
  pub risen : least ≡ least_after 0 (entry_numbers (all_entries entries unfinished))

-- what was read, of a draft that keeps the rest rightly
abbrev pub parts_of : Draft → Parts
parts_of draft = record { globals = draft.listed.globals; entries = draft.entries; unfinished = draft.unfinished }

pub record IsKept (draft : Draft) : Type 0 where
  pub listing : IsListing draft.listed.globals draft.listed.numbers draft.listed.least
  pub drafted : IsDraft draft.entries draft.unfinished draft.named draft.least

-- a draft with one line more; where the line may not follow the fault is `BadText(0)`, and memory may run out
abbrev pub Follows : Draft → Row → Result (Unit {0}) TextFault → Draft → Type 0
Follows before row r after =
    MatchResult r (λ done. Allows (parts_of before) row × (parts_of after ≡ with_row (parts_of before) row) × IsKept after)
    (λ e. (e ≡ Memory) ⊎ ((e ≡ BadText 0) × (Allows (parts_of before) row → ⊥)))
