-- The globals that lines name.
use Rattle.std.specs.Prelude.{ℕ, List, [], ◌∷◌, ◌++◌}
use Rattle.std.specs.List.{flat_map}
use Rattle.rt_lines.specs.declared.variable.Base.{Base}
use Rattle.rt_lines.specs.declared.variable.Base.TheVariants.{Proc, Global, Exist, Outer}
use Rattle.rt_lines.specs.declared.line.Line.{Line}
use Rattle.rt_lines.specs.declared.line.Line.TheVariants.{Var, Same, Sub, Low, Up}
use Rattle.rt_scheme.specs.declared.report.Entry.{Entry}

-- the number of a base that is a global
abbrev pub base_globals : Base → List ℕ
base_globals (Proc n) = []
base_globals (Global n) = n ∷ []
base_globals (Exist n) = []
base_globals (Outer n) = []

-- the numbers of the globals of lines, in the order in which they stand
abbrev pub line_globals : Line → List ℕ
line_globals (Var x) = base_globals x.base
line_globals (Same x y) = base_globals x.base ++ base_globals y.base
line_globals (Sub x y) = base_globals x.base ++ base_globals y.base
line_globals (Low k x) = base_globals x.base
line_globals (Up x k) = base_globals x.base

abbrev pub lines_globals : List Line → List ℕ
lines_globals lines = flat_map line_globals lines

-- those of the lines of entries
abbrev pub entries_globals : List Entry → List ℕ
entries_globals entries = flat_map (λ entry. lines_globals entry.lines) entries
