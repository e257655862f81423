-- The letters of lines.
use Rattle.std.specs.Prelude.{All, List, ◌++◌, Contains, flat_map}
use Rattle.rt_lines.specs.declared.label.Label.{Label}
use Rattle.rt_lines.specs.declared.variable.Dtv.{Dtv}
use Rattle.rt_lines.specs.declared.line.Line.{Line}
use Rattle.rt_lines.specs.declared.line.Line.TheVariants.{Var, Same, Sub, Low, Up}
use Rattle.rt_lines.specs.Words.{IsLabel}
use Rattle.rt_lines.specs.Orders.{Below}
use Rattle.rt_rules.specs.Rules.{longer, Derivable}

-- the letters of a line's variables
abbrev pub line_letters : Line → List Label
line_letters (Var x) = x.word
line_letters (Same x y) = x.word ++ y.word
line_letters (Sub x y) = x.word ++ y.word
line_letters (Low k x) = x.word
line_letters (Up x k) = x.word

-- those of lines
abbrev pub words_of : List Line → List Label
words_of lines = flat_map line_letters lines

-- letters with those of a word
pub record AddsLetters (word old new : List Label) : Type 0 where
  pub kept : (l : Label) → Contains old l → Contains new l
  pub all : (l : Label) → Contains word l → Contains new l
  pub good : All IsLabel old → All IsLabel new

-- whatever the lines derive goes on by one of the letters
abbrev pub HasNext : List Line → List Label → Type 0
HasNext lines letters = (order : Below) (x : Dtv) (l : Label) → Derivable order lines (Var (longer x l)) → Contains letters l
