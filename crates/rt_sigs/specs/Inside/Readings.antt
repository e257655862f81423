-- What the parts of a signature are read as.
use Rattle.std.specs.Prelude.{◌≡◌, ℕ, ◌+◌, ◌≤◌, ◌⊎◌, Bool, IsTrue, Option, None, IfSome, List, ◌∷◌, ◌++◌, All, codes, length}
use Rattle.rt_lines.specs.declared.line.Line.{Line}
use Rattle.rt_texts.specs.Readings.{IsNoText, HasNo}
use Rattle.rt_texts.specs.Texts.{line_text, lines_text}
use Rattle.rt_scheme.specs.NameReadings.{AreBytes}
use Rattle.rt_sigs.specs.declared.fault.SigFault.{SigFault}
use Rattle.rt_sigs.specs.declared.fault.SigFault.TheVariants.{BadLine, UnknownConst, Args, Twice, TooLarge, Memory}
use Rattle.rt_sigs.specs.declared.version.Version.{Version}
use Rattle.rt_sigs.specs.declared.remarks.Remarks.{Remarks}
use Rattle.rt_sigs.specs.declared.body.Body.{Body}
use Rattle.rt_sigs.specs.Signatures.{Signature, IsSignatureLine, is_within, most_args, HasNamed}
use Rattle.rt_sigs.specs.SignatureTexts.{heading_text, version_text, args_text, remarks_text, IsSayable, IsOfVersion, args_count}
use Rattle.rt_sigs.specs.SignatureTexts.{remark_count, first_number}
use Rattle.rt_sigs.specs.Faults.{IsFirstLine, IsUnknown, HasCount, HasRemark, IsBadInside, IsPastArgs}

-- a text of a version begins with the version's line; the rest begins with the line of this number
pub record IsBegun (text : List ℕ) (version : Version) (rest : List ℕ) (number : ℕ) : Type 0 where
  pub chosen : IsOfVersion version text
  pub joined : version_text version ++ rest ≡ text
  pub counted : first_number version ≡ number
  pub bounded : number + length rest ≤ length text + 1

-- a text begins with the first line of a signature with a new name
pub record IsHeading (signatures : List Signature) (text name rest : List ℕ) : Type 0 where
  pub bytes : AreBytes name
  pub new : HasNamed signatures name → ⊥
  pub joined : heading_text name ++ 10 ∷ rest ≡ text

-- why a text, which is not empty, does not
abbrev pub IsHeadingFault : List Signature → List ℕ → ℕ → SigFault → Type 0
IsHeadingFault signatures text number (BadLine n) = (n ≡ number) ×
    (HasNo 10 text ⊎ ((line : List ℕ) × IsFirstLine text line × IsNoText AreBytes heading_text line))
IsHeadingFault signatures text number (Twice n) = (n ≡ number) ×
    ((name : List ℕ) × AreBytes name × IsFirstLine text (heading_text name) × HasNamed signatures name)
IsHeadingFault signatures text number (UnknownConst n) = ⊥
IsHeadingFault signatures text number (Args n) = ⊥
IsHeadingFault signatures text number TooLarge = ⊥
IsHeadingFault signatures text number Memory = Unit {0}

-- a text begins with at most one line that says how many registers a function takes, and the rest with none where none is read
pub record IsCounted (returns : Bool) (text : List ℕ) (first : ℕ) (remarks : Remarks) : Type 0 where
  pub same : remarks.returns ≡ returns
  pub few : IfSome remarks.args (λ (n : ℕ). n ≤ most_args)
  pub no_more : remarks.args ≡ None → HasCount remarks.rest.now → ⊥
  pub joined : args_text remarks.args ++ remarks.rest.now ≡ text
  pub counted : first + args_count remarks.args ≡ remarks.number
  pub bounded : remarks.number + length remarks.rest.now ≤ first + length text

-- a text begins with what is said of a function, and the rest with no more of it
pub record AreRemarks (version : Version) (text : List ℕ) (first : ℕ) (remarks : Remarks) : Type 0 where
  pub said : IsSayable version remarks.returns remarks.args
  pub few : IfSome remarks.args (λ (n : ℕ). n ≤ most_args)
  pub no_more : HasRemark version remarks.returns remarks.args remarks.rest.now → ⊥
  pub joined : remarks_text remarks.returns remarks.args ++ remarks.rest.now ≡ text
  pub counted : first + remark_count remarks.returns remarks.args ≡ remarks.number
  pub bounded : remarks.number + length remarks.rest.now ≤ first + length text

-- why a line is none of a signature
abbrev pub IsLineFault : List (List ℕ) → Option ℕ → List ℕ → ℕ → SigFault → Type 0
IsLineFault names args line number (BadLine n) = (n ≡ number) × IsNoText (IsSignatureLine (length names)) (line_text names) line ×
    (IsUnknown names line → ⊥)
IsLineFault names args line number (UnknownConst n) = (n ≡ number) × IsUnknown names line
IsLineFault names args line number (Args n) = (n ≡ number) × IsPastArgs names args line
IsLineFault names args line number (Twice n) = ⊥
IsLineFault names args line number TooLarge = ⊥
IsLineFault names args line number Memory = Unit {0}

-- the line is one of a signature that says so much of the arguments
pub record IsRightLine (names : List (List ℕ)) (args : Option ℕ) (text : List ℕ) (line : Line) : Type 0 where
  pub good : IsSignatureLine (length names) line
  pub within : IsTrue (is_within args line)
  pub is : line_text names line ≡ text

-- lines of a signature stand before the rest of a text; the rest begins with the line of this number
pub record IsReadTo (names : List (List ℕ)) (args : Option ℕ) (text : List ℕ) (first : ℕ) (lines : List Line) (rest : List ℕ)
    (number : ℕ) : Type 0 where
  pub each : All (IsSignatureLine (length names)) lines
  pub within : All (λ line. IsTrue (is_within args line)) lines
  pub joined : lines_text names lines ++ rest ≡ text
  pub counted : first + length lines ≡ number
  pub bounded : number + length rest ≤ first + length text

-- a text begins with the lines of a signature and its end
pub record IsBody (names : List (List ℕ)) (args : Option ℕ) (text : List ℕ) (first : ℕ) (body : Body) : Type 0 where
  pub own : body.scheme.base ≡ 0
  pub each : All (IsSignatureLine (length names)) body.scheme.lines
  pub within : All (λ line. IsTrue (is_within args line)) body.scheme.lines
  pub joined : lines_text names body.scheme.lines ++ (codes "end\n" ++ body.rest.now) ≡ text
  pub counted : first + length body.scheme.lines + 1 ≡ body.number
  pub bounded : body.number + length body.rest.now ≤ first + length text

-- a line after such lines is bad, or there is no line end
pub record IsBodyBad (names : List (List ℕ)) (args : Option ℕ) (text : List ℕ) (first number : ℕ) : Type 0 where
  pub lines : List Line
  pub rest : List ℕ
  pub read : IsReadTo names args text first lines rest number
  pub bad : HasNo 10 rest ⊎ ((line : List ℕ) × IsFirstLine rest line × IsBadInside names line)

-- a line after such lines is none but for its constant
pub record IsBodyUnknown (names : List (List ℕ)) (args : Option ℕ) (text : List ℕ) (first number : ℕ) : Type 0 where
  pub lines : List Line
  pub rest : List ℕ
  pub read : IsReadTo names args text first lines rest number
  pub line : List ℕ
  pub first_line : IsFirstLine rest line
  pub unknown : IsUnknown names line

-- a line after such lines names an argument that the function doesn't take
pub record IsBodyPast (names : List (List ℕ)) (args : Option ℕ) (text : List ℕ) (first number : ℕ) : Type 0 where
  pub lines : List Line
  pub rest : List ℕ
  pub read : IsReadTo names args text first lines rest number
  pub line : List ℕ
  pub first_line : IsFirstLine rest line
  pub past : IsPastArgs names args line

-- why a text does not
abbrev pub IsBodyFault : List (List ℕ) → Option ℕ → List ℕ → ℕ → SigFault → Type 0
IsBodyFault names args text first (BadLine n) = IsBodyBad names args text first n
IsBodyFault names args text first (UnknownConst n) = IsBodyUnknown names args text first n
IsBodyFault names args text first (Args n) = IsBodyPast names args text first n
IsBodyFault names args text first (Twice n) = ⊥
IsBodyFault names args text first TooLarge = ⊥
IsBodyFault names args text first Memory = Unit {0}
