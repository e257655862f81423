-- Maps of fields, which keep them in order: parts of the way to the fields of a node.
use Rattle.std.specs.Prelude.{◌≡◌, ℕ, List, map}
use Rattle.std.specs.List.{AllByRecursion}
use Rattle.std.specs.declared.cmp.Reverse.{Reverse}
use Rattle.rt_lines.specs.declared.label.Label.{Label}
use Rattle.rt_erase.specs.declared.row.Row.{Row}
use Rattle.rt_erase.specs.Rows.{label_of}

-- the offset and the width of a field, and the node that it leads to
abbrev pub Entry : Type 0
Entry = (ℕ × Reverse ℕ) × ℕ

abbrev pub row_in : Entry → Row
row_in entry = record { offset = entry.0.0; bits = entry.0.1.0; node = entry.1 }

abbrev pub rows_in : List Entry → List Row
rows_in entries = map row_in entries

-- no field of these has the label
abbrev pub AreOthers : Label → List Row → Type 0
AreOthers label rows = AllByRecursion (λ other. label_of other ≡ label → ⊥) rows
