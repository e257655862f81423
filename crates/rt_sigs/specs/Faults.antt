-- What is wrong with a text that is that of no signatures: its first faulty line.
use Rattle.std.specs.Prelude.{◌≡◌, ◌≢◌, ℕ, ◌+◌, ◌<◌, ◌≤◌, ◌⊎◌, Bool, true, false, IsTrue, Option, Some, None, IfSome, List, [], ◌∷◌}
use Rattle.std.specs.Prelude.{◌++◌, All, Contains, codes, length}
use Rattle.rt_lines.specs.declared.line.Line.{Line}
use Rattle.rt_lines.specs.declared.line.Line.TheVariants.{Var, Same, Sub, Low, Up}
use Rattle.rt_lines.specs.Names.{IsName}
use Rattle.rt_texts.specs.Goods.{IsLine}
use Rattle.rt_texts.specs.Readings.{IsNoText, HasNo, IsCut}
use Rattle.rt_texts.specs.Texts.{line_text, lines_text}
use Rattle.rt_scheme.specs.NameReadings.{AreBytes}
use Rattle.rt_sigs.specs.declared.fault.SigFault.{SigFault}
use Rattle.rt_sigs.specs.declared.fault.SigFault.TheVariants.{BadLine, UnknownConst, Args, Twice, TooLarge, Memory}
use Rattle.rt_sigs.specs.declared.version.Version.{Version}
use Rattle.rt_sigs.specs.declared.version.Version.TheVariants.{First, Second}
use Rattle.rt_sigs.specs.Signatures.{Signature, is_signature_line, IsSignatureLine, is_within, most_args, AreSignatures, HasNamed}
use Rattle.rt_sigs.specs.SignatureTexts.{heading_text, returns_text, count_text, remarks_text, file_text, AreSayable, IsSayable}
use Rattle.rt_sigs.specs.SignatureTexts.{IsOfVersion, remark_count, line_count, first_number}

-- the line has a constant
abbrev pub has_constant : Line → Bool
has_constant (Var x) = false
has_constant (Same x y) = false
has_constant (Sub x y) = false
has_constant (Low k x) = true
has_constant (Up x k) = true

-- the text is that of the line, which has a constant, where the constant's name is the only one that is known
pub record IsLineWith (name text : List ℕ) (line : Line) : Type 0 where
  pub spelled : IsName name
  pub constant : IsTrue (has_constant line)
  pub good : IsLine 1 line
  pub is : line_text (name ∷ []) line ≡ text

-- the text would be that of a line of a signature if its constant's name were known
pub record IsUnknown (names : List (List ℕ)) (text : List ℕ) : Type 0 where
  pub name : List ℕ
  pub absent : Contains names name → ⊥
  pub line : Line
  pub with_name : IsLineWith name text line
  pub allowed : IsTrue (is_signature_line line)

-- the first line of a text, which has a line end
pub record IsFirstLine (text line : List ℕ) : Type 0 where
  pub more : List ℕ
  pub cut : IsCut 10 text line (10 ∷ more)

-- a text begins with a line that says how many registers are taken
abbrev pub HasCount : List ℕ → Type 0
HasCount text = (n : ℕ) × (rest : List ℕ) × (n ≤ most_args) × (text ≡ count_text n ++ rest)

-- In the second version the text begins with a line that may say more of the function, where this has been said of it so far.
abbrev pub HasRemark : Version → Bool → Option ℕ → List ℕ → Type 0
HasRemark First returns args text = ⊥
HasRemark Second returns (Some count) text = ⊥
HasRemark Second true None text = ((rest : List ℕ) × (text ≡ returns_text false ++ rest)) ⊎ HasCount text
HasRemark Second false None text = HasCount text

-- the line is neither one of a signature, nor `end`, nor only for its constant no such line
pub record IsBadInside (names : List (List ℕ)) (line : List ℕ) : Type 0 where
  pub no_end : codes "end" ≢ line
  pub no_line : IsNoText (IsSignatureLine (length names)) (line_text names) line
  pub known : IsUnknown names line → ⊥

-- the line is one of a signature, but names an argument that the function doesn't take
pub record IsPastArgs (names : List (List ℕ)) (args : Option ℕ) (text : List ℕ) : Type 0 where
  pub line : Line
  pub good : IsSignatureLine (length names) line
  pub is : line_text names line ≡ text
  pub past : is_within args line ≡ false

-- Whole signatures stand before the rest of the text, which begins with the line of this number, from 1.
pub record IsBetween (version : Version) (names : List (List ℕ)) (text : List ℕ) (signatures : List Signature)
    (rest : List ℕ) (number : ℕ) : Type 0 where
  pub chosen : IsOfVersion version text
  pub good : AreSignatures (length names) signatures
  pub sayable : AreSayable version signatures
  pub joined : file_text version names signatures ++ rest ≡ text
  pub counted : first_number version + line_count signatures ≡ number

-- Whole signatures, the first line of one with another name, what is said of its function and lines of it stand before the rest
-- of the text, which begins with the line of this number. Where no line of it stands there, no more is said of the function.
pub record IsInside (names : List (List ℕ)) (text rest : List ℕ) (number : ℕ) : Type 0 where
  pub version : Version
  pub signatures : List Signature
  pub name : List ℕ
  pub returns : Bool
  pub args : Option ℕ
  pub lines : List Line
  pub chosen : IsOfVersion version text
  pub good : AreSignatures (length names) signatures
  pub sayable : AreSayable version signatures
  pub bytes : AreBytes name
  pub new : HasNamed signatures name → ⊥
  pub said : IsSayable version returns args
  pub few : IfSome args (λ (n : ℕ). n ≤ most_args)
  pub each : All (IsSignatureLine (length names)) lines
  pub within : All (λ line. IsTrue (is_within args line)) lines
  pub no_more : lines ≡ [] → HasRemark version returns args rest → ⊥
  pub joined :
      file_text version names signatures ++ (heading_text name ++ 10 ∷
      (remarks_text returns args ++ (lines_text names lines ++ rest))) ≡ text
  pub counted : first_number version + line_count signatures + (remark_count returns args + length lines + 1) ≡ number

-- The line of this number is the first that is not of the grammar in its place. After a whole signature it is no `sig` line, or
-- there is a last line with no line end; within a signature it is bad, or there is no line end, so that the text ends.
pub record IsBadBetween (names : List (List ℕ)) (text : List ℕ) (number : ℕ) : Type 0 where
  pub version : Version
  pub signatures : List Signature
  pub rest : List ℕ
  pub at : IsBetween version names text signatures rest number
  pub bad : ((rest ≢ []) × HasNo 10 rest) ⊎ ((line : List ℕ) × IsFirstLine rest line × IsNoText AreBytes heading_text line)

pub record IsBadWithin (names : List (List ℕ)) (text : List ℕ) (number : ℕ) : Type 0 where
  pub rest : List ℕ
  pub at : IsInside names text rest number
  pub bad : HasNo 10 rest ⊎ ((line : List ℕ) × IsFirstLine rest line × IsBadInside names line)

-- the line of this number is the first that is not of the grammar, and it is not but for its constant
pub record HasUnknown (names : List (List ℕ)) (text : List ℕ) (number : ℕ) : Type 0 where
  pub rest : List ℕ
  pub at : IsInside names text rest number
  pub line : List ℕ
  pub first : IsFirstLine rest line
  pub unknown : IsUnknown names line

-- the line of this number is the first that is faulty, one that names an argument that its function doesn't take
pub record HasPastArgs (names : List (List ℕ)) (text : List ℕ) (number : ℕ) : Type 0 where
  pub rest : List ℕ
  pub at : IsInside names text rest number
  pub line : List ℕ
  pub first : IsFirstLine rest line
  pub past : IsPastArgs names at.args line

-- the line of this number is the first that is faulty, a `sig` line with the name of a signature before it
pub record IsTwice (names : List (List ℕ)) (text : List ℕ) (number : ℕ) : Type 0 where
  pub version : Version
  pub signatures : List Signature
  pub rest : List ℕ
  pub at : IsBetween version names text signatures rest number
  pub name : List ℕ
  pub bytes : AreBytes name
  pub first : IsFirstLine rest (heading_text name)
  pub named : HasNamed signatures name

-- the greatest length of a file, in bytes
abbrev pub most_bytes : ℕ
most_bytes = 1048576

-- why the text is refused: that it is too large, else its first faulty line
abbrev pub IsFault : List (List ℕ) → List ℕ → SigFault → Type 0
IsFault names text (BadLine number) = (length text ≤ most_bytes) × (IsBadBetween names text number ⊎ IsBadWithin names text number)
IsFault names text (UnknownConst number) = (length text ≤ most_bytes) × HasUnknown names text number
IsFault names text (Args number) = (length text ≤ most_bytes) × HasPastArgs names text number
IsFault names text (Twice number) = (length text ≤ most_bytes) × IsTwice names text number
IsFault names text TooLarge = most_bytes < length text
IsFault names text Memory = Unit {0}
