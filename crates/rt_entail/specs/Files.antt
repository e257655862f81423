-- Texts of lines, each with its line end, and where one is bad.
use Rattle.std.specs.Prelude.{◌≡◌, ◌≢◌, ℕ, ◌⊎◌, List, [], ◌++◌, All, length, Result, MatchResult}
use Rattle.rt_lines.specs.declared.line.Line.{Line}
use Rattle.rt_texts.specs.declared.fault.TextFault.{TextFault}
use Rattle.rt_texts.specs.declared.fault.TextFault.TheVariants.{BadText, Memory}
use Rattle.rt_texts.specs.Goods.{IsLine}
use Rattle.rt_texts.specs.Readings.{IsNoText, IsCut}
use Rattle.rt_texts.specs.Texts.{line_text, lines_text}

-- the text is that of these lines, each with its line end
pub record IsFileOf (names : List (List ℕ)) (text : List ℕ) (lines : List Line) : Type 0 where
  pub good : All (IsLine (length names)) lines
  pub is : lines_text names lines ≡ text

-- the bytes up to the next line end have none, or no line has them as its text
pub record IsBadLine (names : List (List ℕ)) (text : List ℕ) : Type 0 where
  pub line : List ℕ
  pub more : List ℕ
  pub cut : IsCut 10 text line more
  pub bad : (more ≡ []) ⊎ IsNoText (IsLine (length names)) (line_text names) line

-- a bad line begins at the place, a number of bytes; up to it stand good lines
pub record IsBadAt (names : List (List ℕ)) (text : List ℕ) (place : ℕ) : Type 0 where
  pub lines : List Line
  pub rest : List ℕ
  pub good : All (IsLine (length names)) lines
  pub joined : lines_text names lines ++ rest ≡ text
  pub at_place : length (lines_text names lines) ≡ place
  pub goes_on : rest ≢ []
  pub bad_line : IsBadLine names rest

-- the lines of the text, or the place at which its first bad line begins; memory may run out
abbrev pub ReadsFile : List (List ℕ) → List ℕ → Result (List Line) TextFault → Type 0
ReadsFile names text r =
    MatchResult r (IsFileOf names text) (λ e. (e ≡ Memory) ⊎ ((place : ℕ) × (e ≡ BadText place) × IsBadAt names text place))
