-- Lines that others derive, dropped from the end.
use Rattle.std.specs.Prelude.{List, [], ◌∷◌, ◌++◌}
use Rattle.rt_lines.specs.declared.line.Line.{Line}
use Rattle.rt_lines.specs.Orders.{Below}
use Rattle.rt_rules.specs.Rules.{Derivable}

-- From the last line to the first, a line goes if the lines before it and those that stayed behind it derive it, and stays if they don't.
pub data Drops (order : Below) : List Line → List Line → List Line → Type 0 where
  ends : (before : List Line) → Drops order before [] []
  goes : (before lines kept : List Line) (l : Line) → Drops order (before ++ l ∷ []) lines kept →
      Derivable order (before ++ kept) l →
      Drops order before (l ∷ lines) kept
  stays : (before lines kept : List Line) (l : Line) → Drops order (before ++ l ∷ []) lines kept →
      (Derivable order (before ++ kept) l → ⊥) →
      Drops order before (l ∷ lines) (l ∷ kept)
