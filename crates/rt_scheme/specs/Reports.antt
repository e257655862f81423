-- The text of a report.
use Rattle.std.specs.Prelude.{ℕ, List, [], ◌∷◌, ◌++◌, All, codes, decimal}
use Rattle.std.specs.List.{flat_map}
use Rattle.rt_lines.specs.Lines.{HasConstantsBelow}
use Rattle.rt_texts.specs.Texts.{lines_text}
use Rattle.rt_scheme.specs.declared.report.Place2.{Place2}
use Rattle.rt_scheme.specs.declared.report.Entry.{Entry}
use Rattle.rt_scheme.specs.declared.report.Report.{Report}
use Rattle.rt_scheme.specs.NameTexts.{name_text}

-- the line of a global: its number and its name
abbrev pub global_text : ℕ × List ℕ → List ℕ
global_text (number, name) = codes "global g" ++ decimal number ++ codes " name " ++ name_text name ++ 10 ∷ []

-- the line that a procedure begins with: its number, its place and its name
abbrev pub heading_text : ℕ → Place2 → List ℕ → List ℕ
heading_text number place name =
    codes "proc f" ++ decimal number ++ codes " section " ++ decimal place.section ++ codes " offset " ++ decimal place.offset ++
    codes " name " ++ name_text name ++ 10 ∷ []

-- a procedure: its heading, its lines, and `end`
abbrev pub entry_text : List (List ℕ) → Entry → List ℕ
entry_text names entry = heading_text entry.number entry.place entry.name ++ lines_text names entry.lines ++ codes "end\n"

-- the globals, then the procedures
abbrev pub report_text : List (List ℕ) → Report → List ℕ
report_text names report = flat_map global_text report.globals ++ flat_map (entry_text names) report.entries

-- each constant of the report's lines is below the count
abbrev pub AllConstantsBelow : ℕ → Report → Type 0
AllConstantsBelow count report = All (λ entry. All (HasConstantsBelow count) entry.lines) report.entries
