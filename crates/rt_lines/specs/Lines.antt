-- Facts of lines.
use Rattle.std.specs.Prelude.{ℕ, ◌<◌}
use Rattle.rt_lines.specs.declared.line.Direction.{Direction}
use Rattle.rt_lines.specs.declared.line.Direction.TheVariants.{Lower, Upper}
use Rattle.rt_lines.specs.declared.line.Line.{Line}
use Rattle.rt_lines.specs.declared.line.Line.TheVariants.{Var, Same, Sub, Low, Up}
use Rattle.rt_lines.specs.declared.variable.Dtv.{Dtv}

-- each constant of the line is below the count
abbrev pub HasConstantsBelow : ℕ → Line → Type 0
HasConstantsBelow count (Var x) = Unit {0}
HasConstantsBelow count (Same x y) = Unit {0}
HasConstantsBelow count (Sub x y) = Unit {0}
HasConstantsBelow count (Low k x) = k < count
HasConstantsBelow count (Up x k) = k < count

-- the line that says that a constant is a bound of a variable
abbrev pub bound_line : Direction → ℕ → Dtv → Line
bound_line Lower k x = Low k x
bound_line Upper k x = Up x k

-- the line says that a constant is a bound
abbrev pub IsBound : Line → Type 0
IsBound (Var x) = ⊥
IsBound (Same x y) = ⊥
IsBound (Sub x y) = ⊥
IsBound (Low k x) = Unit {0}
IsBound (Up x k) = Unit {0}
