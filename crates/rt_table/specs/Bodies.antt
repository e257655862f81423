-- Lists of lines with the numbers of their procedures.
use Rattle.std.specs.Prelude.{ℕ, List, map}
use Rattle.rt_lines.specs.declared.line.Line.{Line}

abbrev pub numbers_in : List (ℕ × List Line) → List ℕ
numbers_in bodies = map (λ body. body.0) bodies

abbrev pub lists_in : List (ℕ × List Line) → List (List Line)
lists_in bodies = map (λ body. body.1) bodies
