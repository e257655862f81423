-- Lists of lines of which the outside can derive the same loosely.
use Rattle.std.specs.Prelude.{List, ◌++◌, All, Bool}
use Rattle.rt_lines.specs.declared.variable.Base.{Base}
use Rattle.rt_lines.specs.declared.line.Line.{Line}
use Rattle.rt_lines.specs.declared.line.Judge.{Judge}
use Rattle.rt_lines.specs.Orders.{Below}
use Rattle.rt_rules.specs.Rules.{line_of}
use Rattle.rt_rules.specs.Alike.{IsOutside}
use Rattle.rt_loose.specs.Loose.{Loosely}

-- what the outside can derive loosely from the first list, it can derive so from the second
abbrev pub LooselyCovers : Below → (Base → Bool) → List Line → List Line → Type 0
LooselyCovers order inside first second =
    (added : List Line) (j : Judge) → All (IsOutside inside) added → IsOutside inside (line_of j) →
    Loosely order (first ++ added) (line_of j) → Loosely order (second ++ added) (line_of j)

-- whatever lines the outside adds, it can derive the same loosely from both lists
abbrev pub LooselyAlike : Below → (Base → Bool) → List Line → List Line → Type 0
LooselyAlike order inside first second = LooselyCovers order inside first second × LooselyCovers order inside second first
