-- Signatures: names with what is said of their functions.
use Rattle.std.specs.Prelude.{◌≡◌, ◌≢◌, ℕ, ◌≤◌, Bool, true, false, ◌&&◌, IsTrue, Option, Some, None, IfSome, nat_eq, nat_lt}
use Rattle.std.specs.Prelude.{if◌then◌else◌, List, [], ◌∷◌, All, AllPairs, Contains}
use lib.Pointwise.{pointwise}
use Rattle.rt_lines.specs.declared.label.Loc.{Loc}
use Rattle.rt_lines.specs.declared.label.Loc.TheVariants.{Arg, Stack}
use Rattle.rt_lines.specs.declared.label.Label.{Label}
use Rattle.rt_lines.specs.declared.label.Label.TheVariants.{In, Out, Load, Store, Field}
use Rattle.rt_lines.specs.declared.variable.Base.{Base}
use Rattle.rt_lines.specs.declared.variable.Base.TheVariants.{Proc, Global, Exist, Outer}
use Rattle.rt_lines.specs.declared.variable.Dtv.{Dtv}
use Rattle.rt_lines.specs.declared.line.Line.{Line}
use Rattle.rt_lines.specs.declared.line.Line.TheVariants.{Var, Same, Sub, Low, Up}
use Rattle.rt_texts.specs.Goods.{IsLine}
use Rattle.rt_scheme.specs.declared.scheme.Scheme.{Scheme}
use Rattle.rt_scheme.specs.Schemes.{is_scheme_line}
use Rattle.rt_scheme.specs.NameReadings.{AreBytes}
use Rattle.rt_sigs.specs.declared.prototype.Prototype.{Prototype}

-- a name and what is said of its function: the scheme, whether the function returns, and how many registers it takes, where
-- that is said
abbrev pub Signature : Type 0
Signature = List ℕ × Prototype

abbrev pub is_no_global : Base → Bool
is_no_global (Proc n) = true
is_no_global (Global n) = false
is_no_global (Exist n) = true
is_no_global (Outer n) = true

abbrev pub names_no_global : Line → Bool
names_no_global (Var x) = is_no_global x.base
names_no_global (Same x y) = is_no_global x.base && is_no_global y.base
names_no_global (Sub x y) = is_no_global x.base && is_no_global y.base
names_no_global (Low k x) = is_no_global x.base
names_no_global (Up x k) = is_no_global x.base

-- a line of a scheme of procedure 0 that names no global
abbrev pub is_signature_line : Line → Bool
is_signature_line line = is_scheme_line 0 line && names_no_global line

-- such a line, of parts in range and constants below the count
abbrev pub IsSignatureLine : ℕ → Line → Type 0
IsSignatureLine count line = IsLine count line × IsTrue (is_signature_line line)

-- the argument is one of a function that takes so many registers: one of these, or a word of the stack where it takes all 8
abbrev pub is_taken : ℕ → Loc → Bool
is_taken count (Arg k) = nat_lt k count
is_taken count (Stack k) = nat_eq count 8

-- a word of the function itself begins with no argument but one of these
abbrev pub begins_within : ℕ → List Label → Bool
begins_within count [] = true
begins_within count (In l ∷ w) = is_taken count l
begins_within count (Out n ∷ w) = true
begins_within count (Load ∷ w) = true
begins_within count (Store ∷ w) = true
begins_within count (Field b k ∷ w) = true

abbrev pub is_side_within : ℕ → Base → List Label → Bool
is_side_within count (Proc n) w = begins_within count w
is_side_within count (Global n) w = true
is_side_within count (Exist n) w = true
is_side_within count (Outer n) w = true

abbrev pub is_variable_within : ℕ → Dtv → Bool
is_variable_within count x = is_side_within count x.base x.word

abbrev pub is_line_within : ℕ → Line → Bool
is_line_within count (Var x) = is_variable_within count x
is_line_within count (Same x y) = is_variable_within count x && is_variable_within count y
is_line_within count (Sub x y) = is_variable_within count x && is_variable_within count y
is_line_within count (Low k x) = is_variable_within count x
is_line_within count (Up x k) = is_variable_within count x

-- the line names no argument of the function but those that it takes, where their count is said
abbrev pub is_within : Option ℕ → Line → Bool
is_within None line = true
is_within (Some count) line = is_line_within count line

-- there are 8 argument registers
abbrev pub most_args : ℕ
most_args = 8

-- a name, and a scheme of procedure 0 with such lines, which name no arguments but those that the function takes
pub record IsSignature (count : ℕ) (signature : Signature) : Type 0 where
  pub bytes : AreBytes signature.0
  pub own : signature.1.scheme.base ≡ 0
  pub good : All (IsSignatureLine count) signature.1.scheme.lines
  pub few : IfSome signature.1.args (λ (n : ℕ). n ≤ most_args)
  pub within : All (λ line. IsTrue (is_within signature.1.args line)) signature.1.scheme.lines

-- a signature has the name
abbrev pub HasNamed : List Signature → List ℕ → Type 0
HasNamed signatures name = (prototype : Prototype) × Contains signatures (name, prototype)

-- a signature has the name and the scheme
abbrev pub HasScheme : List Signature → List ℕ → Scheme → Type 0
HasScheme signatures name scheme = (prototype : Prototype) × Contains signatures (name, prototype) × (prototype.scheme ≡ scheme)

-- signatures of different names
pub record AreSignatures (count : ℕ) (signatures : List Signature) : Type 0 where
  pub each : All (IsSignature count) signatures
  pub distinct : AllPairs (λ a b. a.0 ≢ b.0) signatures

-- what is said of the function of a name, if there is a signature of it; the first counts
abbrev pub prototype_of : List Signature → List ℕ → Option Prototype
prototype_of [] name = None
prototype_of ((other, prototype) ∷ signatures) name = if pointwise nat_eq other name then Some prototype else prototype_of signatures name

-- its scheme
abbrev pub signature_of : List Signature → List ℕ → Option Scheme
signature_of [] name = None
signature_of ((other, prototype) ∷ signatures) name =
    if pointwise nat_eq other name then Some prototype.scheme else signature_of signatures name

-- whether the function of a name returns: it does but where its signature says that it doesn't
abbrev pub returns_of : List Signature → List ℕ → Bool
returns_of [] name = true
returns_of ((other, prototype) ∷ signatures) name = if pointwise nat_eq other name then prototype.returns else returns_of signatures name

-- how many registers the function of a name takes, where its signature says so
abbrev pub args_of : List Signature → List ℕ → Option ℕ
args_of [] name = None
args_of ((other, prototype) ∷ signatures) name = if pointwise nat_eq other name then prototype.args else args_of signatures name
