-- The law of texts.
use Rattle.std.specs.Prelude.{◌≡◌, ℕ, List, length}
use Rattle.rt_lines.specs.declared.line.Line.{Line}
use Rattle.rt_lines.specs.Names.{AreNames}
use Rattle.rt_texts.specs.Goods.{IsLine}
use Rattle.rt_texts.specs.Texts.{line_text}

-- no text is that of two lines
abbrev pub OneLine : Type 0
OneLine =
    (names : List (List ℕ)) (first second : Line) → AreNames names → IsLine (length names) first → IsLine (length names) second →
    line_text names first ≡ line_text names second → first ≡ second
