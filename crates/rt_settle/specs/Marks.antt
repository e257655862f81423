-- The marks of the scheme that is chosen: the loose bounds of the procedure's variables.
use Rattle.std.specs.Prelude.{◌↔◌, ℕ, List}
use Rattle.rt_lines.specs.declared.line.Line.{Line}
use Rattle.rt_lines.specs.declared.line.Judge.{Judge}
use Rattle.rt_lines.specs.Orders.{Below}
use Rattle.rt_rules.specs.Rules.{line_of}
use Rattle.rt_rules.specs.Alike.{IsOutside, is_inside_for}
use Rattle.rt_loose.specs.Loose.{IsLoose}
use Rattle.rt_scheme.specs.Splitting.{AreInterfaceLines}
use Rattle.rt_marks.specs.Outsides.{LooselyAlike}
use Rattle.rt_settle.specs.Chosen.{IsChosen}

-- of lines of procedures' arguments and results, globals and existentials, whatever lines the outside of the procedure adds, it can derive
-- loosely from what is chosen what it can from the lines
abbrev pub ChosenLoosely : Type 0
ChosenLoosely =
    (order : Below) (own : ℕ) (lines chosen : List Line) → AreInterfaceLines lines → IsChosen order own lines chosen →
    LooselyAlike order (is_inside_for own) lines chosen

-- so the loose bounds of the procedure's variables that follow from the lines are those that follow from the chosen scheme, and so are
-- which of its variables there are, and which lie loosely below which
abbrev pub ChosenMarks : Type 0
ChosenMarks =
    (order : Below) (own : ℕ) (lines chosen : List Line) (j : Judge) → AreInterfaceLines lines → IsChosen order own lines chosen →
    IsOutside (is_inside_for own) (line_of j) → IsLoose order lines (line_of j) ↔ IsLoose order chosen (line_of j)
