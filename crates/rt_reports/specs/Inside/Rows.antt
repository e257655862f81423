-- The lines of reports.
use Rattle.std.specs.Prelude.{ℕ, List, ◌++◌, codes, decimal}
use Rattle.rt_texts.specs.Goods.{IsNumber, IsLine}
use Rattle.rt_texts.specs.Texts.{line_text}
use Rattle.rt_scheme.specs.declared.report.Place2.{Place2}
use Rattle.rt_scheme.specs.NameTexts.{name_text}
use Rattle.rt_scheme.specs.NameReadings.{AreBytes}
use Rattle.rt_reports.specs.GoodReports.{IsGlobal, IsPlace}
use Rattle.rt_reports.specs.declared.row.Row.{Row}
use Rattle.rt_reports.specs.declared.row.Row.TheVariants.{Listed, Heading, Stated, End}

-- what stands in a global's line after `global g`
abbrev pub listed_text : ℕ × List ℕ → List ℕ
listed_text (number, name) = decimal number ++ (codes " name " ++ name_text name)

-- what stands in the first line of an entry after `proc f`
abbrev pub begun_text : ℕ × Place2 × List ℕ → List ℕ
begun_text (number, place, name) = decimal number ++
    (codes " section " ++ (decimal place.section ++ (codes " offset " ++ (decimal place.offset ++ (codes " name " ++ name_text name)))))

-- the number, the place and the name of an entry
abbrev pub IsBegun : ℕ × Place2 × List ℕ → Type 0
IsBegun (number, place, name) = IsNumber number × IsPlace place × AreBytes name

-- a line's text, without the line's end
abbrev pub row_text : List (List ℕ) → Row → List ℕ
row_text names (Listed number name) = codes "global g" ++ listed_text (number, name)
row_text names (Heading number place name) = codes "proc f" ++ begun_text (number, place, name)
row_text names (Stated line) = line_text names line
row_text names End = codes "end"

-- a line of parts in range and constants below the count
abbrev pub IsRow : ℕ → Row → Type 0
IsRow count (Listed number name) = IsGlobal (number, name)
IsRow count (Heading number place name) = IsBegun (number, place, name)
IsRow count (Stated line) = IsLine count line
IsRow count End = Unit {0}
