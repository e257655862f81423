-- Lines that say nothing twice.
use Rattle.std.specs.Prelude.{List, map, cond}
use Rattle.rt_lines.specs.declared.line.Line.{Line}
use Rattle.rt_lines.specs.declared.line.Line.TheVariants.{Var, Same, Sub, Low, Up}
use Rattle.rt_lines.specs.Equality.{variable_eq}
use Rattle.rt_lines.specs.Numbering.{deduplicated}

-- the line, but that `var X` stands for `X <= X` and for `same X X`
abbrev pub without_self : Line → Line
without_self (Var x) = Var x
without_self (Same x y) = cond (variable_eq x y) (Var x) (Same x y)
without_self (Sub x y) = cond (variable_eq x y) (Var x) (Sub x y)
without_self (Low k x) = Low k x
without_self (Up x k) = Up x k

-- each line once, and none that puts a variable beside itself
abbrev pub tidied : List Line → List Line
tidied lines = deduplicated (map without_self lines)
