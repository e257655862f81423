-- The constants that lines name.
use Rattle.std.specs.Prelude.{◌≡◌, ℕ, List, Contains}
use Rattle.rt_lines.specs.declared.line.Line.{Line}
use Rattle.rt_lines.specs.declared.line.Line.TheVariants.{Var, Same, Sub, Low, Up}

-- the line bounds a variable by the constant
abbrev pub HasConstant : ℕ → Line → Type 0
HasConstant k (Var x) = ⊥
HasConstant k (Same x y) = ⊥
HasConstant k (Sub x y) = ⊥
HasConstant k (Low n x) = n ≡ k
HasConstant k (Up x n) = n ≡ k

-- one of the lines does
abbrev pub NamesConstant : List Line → ℕ → Type 0
NamesConstant lines k = (l : Line) × Contains lines l × HasConstant k l
