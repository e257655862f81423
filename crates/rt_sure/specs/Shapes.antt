-- Shapes of lines.
use Rattle.rt_lines.specs.declared.line.Line.{Line}
use Rattle.rt_lines.specs.declared.line.Line.TheVariants.{Var, Same, Sub, Low, Up}

-- the line, but that a `<=` line says no more than that its sides have one shape
abbrev pub shape_of : Line → Line
shape_of (Var x) = Var x
shape_of (Same x y) = Same x y
shape_of (Sub x y) = Same x y
shape_of (Low k x) = Low k x
shape_of (Up x k) = Up x k
