-- Lines in the order of their texts.
use Rattle.std.specs.Prelude.{ℕ, ◌-◌, List, ◌++◌, decimal, length, map, replicate, IsSorted}
use Rattle.std.specs.Ordering.{nat_cmp}
use Rattle.std.specs.Cmp.Lexicographic.{slice_cmp}
use Rattle.rt_base.specs.First.{entries}
use Rattle.rt_lattice.specs.Standard.{standard_names}
use Rattle.rt_lines.specs.declared.line.Line.{Line}
use Rattle.rt_texts.specs.Texts.{line_text}

-- a number in decimal, with zeros in front to at least three digits
abbrev pub padded : ℕ → List ℕ
padded n = replicate (3 - length (decimal n)) 48 ++ decimal n

-- the names of the standard lattice, and for so many constants after them their numbers
unfoldable pub names_with : ℕ → List (List ℕ)
names_with count = standard_names ++ entries padded 12 count

-- the names by which lines are sorted, whatever lattice the program works with: one for each of the 65536 constants
abbrev pub sort_names : List (List ℕ)
sort_names = names_with 65524

-- the texts of the lines rise by their bytes
abbrev pub AreSorted : List Line → Type 0
AreSorted lines = IsSorted (slice_cmp nat_cmp) (map (line_text sort_names) lines)
