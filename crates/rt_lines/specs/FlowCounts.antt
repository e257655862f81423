-- How many lines let something flow.
use Rattle.std.specs.Prelude.{ℕ, ◌+◌, List, [], ◌∷◌}
use Rattle.rt_lines.specs.declared.line.Line.{Line}
use Rattle.rt_lines.specs.declared.line.Line.TheVariants.{Var, Same, Sub, Low, Up}

-- how many of the lines are `<=` lines or bounds
abbrev pub line_flow_count : Line → ℕ
line_flow_count (Var x) = 0
line_flow_count (Same x y) = 0
line_flow_count (Sub x y) = 1
line_flow_count (Low k x) = 1
line_flow_count (Up x k) = 1

abbrev pub flow_count : List Line → ℕ
flow_count [] = 0
flow_count (l ∷ ls) = line_flow_count l + flow_count ls
