-- The law of instances.
use Rattle.std.specs.Prelude.{ℕ, ◌*◌, ◌≤◌, List, length}
use Rattle.rt_lines.specs.declared.line.Line.{Line}
use Rattle.rt_scheme.specs.Instances.{new_count}

-- an instance has at most two existentials for each line
abbrev pub FewAreNew : Type 0
FewAreNew = (own : ℕ) (lines : List Line) → new_count own lines ≤ 2 * length lines
