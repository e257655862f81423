-- The text of signatures.
use Rattle.std.specs.Prelude.{◌≡◌, ◌≢◌, ℕ, ◌+◌, Bool, true, false, Option, Some, None, List, [], ◌∷◌, ◌++◌, All, codes, length}
use Rattle.std.specs.List.{flat_map}
use Rattle.rt_texts.specs.Texts.{lines_text}
use Rattle.rt_scheme.specs.NameTexts.{name_text}
use Rattle.rt_sigs.specs.declared.version.Version.{Version}
use Rattle.rt_sigs.specs.declared.version.Version.TheVariants.{First, Second}
use Rattle.rt_sigs.specs.Signatures.{Signature, AreSignatures}

-- the first line of a signature, without the line's end
abbrev pub heading_text : List ℕ → List ℕ
heading_text name = codes "sig " ++ name_text name

-- the line of a function that doesn't return, and no line of one that does
abbrev pub returns_text : Bool → List ℕ
returns_text true = []
returns_text false = codes "noreturn\n"

-- the line that says how many registers a function takes, by one digit
abbrev pub count_text : ℕ → List ℕ
count_text n = codes "args " ++ (48 + n) ∷ 10 ∷ []

abbrev pub args_text : Option ℕ → List ℕ
args_text None = []
args_text (Some n) = count_text n

-- what is said of the function before its lines
abbrev pub remarks_text : Bool → Option ℕ → List ℕ
remarks_text returns args = returns_text returns ++ args_text args

-- a signature: its name, what is said of the function, its lines, and `end`
abbrev pub signature_text : List (List ℕ) → Signature → List ℕ
signature_text names (name, prototype) =
    heading_text name ++ 10 ∷ (remarks_text prototype.returns prototype.args
    ++ (lines_text names prototype.scheme.lines ++ codes "end\n"))

-- the line that a text of the second version begins with
abbrev pub version_text : Version → List ℕ
version_text First = []
version_text Second = codes "version 2\n"

-- a file: the line of its version, and signatures, in order
abbrev pub file_text : Version → List (List ℕ) → List Signature → List ℕ
file_text version names signatures = version_text version ++ flat_map (signature_text names) signatures

-- what a version's grammar can say of a function besides its scheme: the first nothing
abbrev pub IsSayable : Version → Bool → Option ℕ → Type 0
IsSayable First returns args = (returns ≡ true) × (args ≡ None)
IsSayable Second returns args = Unit {0}

abbrev pub AreSayable : Version → List Signature → Type 0
AreSayable version signatures = All (λ s. IsSayable version s.1.returns s.1.args) signatures

-- the text is that of these signatures, which have different names, in a version whose grammar can say them
pub record IsFileIn (version : Version) (names : List (List ℕ)) (text : List ℕ) (signatures : List Signature) : Type 0 where
  pub good : AreSignatures (length names) signatures
  pub sayable : AreSayable version signatures
  pub is : file_text version names signatures ≡ text

-- the text is that of these signatures in one of the versions
abbrev pub IsFileOf : List (List ℕ) → List ℕ → List Signature → Type 0
IsFileOf names text signatures = (version : Version) × IsFileIn version names text signatures

-- the version by whose grammar a text is read: the second where it begins with that version's line
abbrev pub IsOfVersion : Version → List ℕ → Type 0
IsOfVersion First text = (rest : List ℕ) → text ≢ version_text Second ++ rest
IsOfVersion Second text = (rest : List ℕ) × (text ≡ version_text Second ++ rest)

-- how many lines these texts have
abbrev pub returns_count : Bool → ℕ
returns_count true = 0
returns_count false = 1

abbrev pub args_count : Option ℕ → ℕ
args_count None = 0
args_count (Some n) = 1

abbrev pub remark_count : Bool → Option ℕ → ℕ
remark_count returns args = returns_count returns + args_count args

abbrev pub line_count : List Signature → ℕ
line_count [] = 0
line_count ((name, prototype) ∷ signatures) =
    2 + remark_count prototype.returns prototype.args + length prototype.scheme.lines + line_count signatures

-- the number of a text's line after that of its version, from 1
abbrev pub first_number : Version → ℕ
first_number First = 1
first_number Second = 2
