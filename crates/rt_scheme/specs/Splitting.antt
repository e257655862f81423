-- Arguments and results of procedures split into an existential for each.
use Rattle.std.specs.Prelude.{◌≡◌, ℕ, Bool, true, false, IsTrue, if◌then◌else◌, List, [], ◌∷◌, ◌++◌, map, All, Contains, flat_map}
use Rattle.std.specs.List.{list_all}
use Rattle.rt_lines.specs.declared.label.Label.{Label}
use Rattle.rt_lines.specs.declared.variable.Base.{Base}
use Rattle.rt_lines.specs.declared.variable.Base.TheVariants.{Proc, Global, Exist, Outer}
use Rattle.rt_lines.specs.declared.variable.Dtv.{Dtv}
use Rattle.rt_lines.specs.declared.line.Line.{Line}
use Rattle.rt_lines.specs.Sides.{map_line, sides}
use Rattle.rt_lines.specs.Orders.{Below}
use Rattle.rt_rules.specs.Rules.{HasSide}
use Rattle.rt_rules.specs.Alike.{Alike}
use Rattle.rt_rules.specs.Laws.{NamesBase}
use Rattle.rt_scheme.specs.Schemes.{is_interface}
use Rattle.rt_scheme.specs.declared.interface.Interface.{Interface}

-- an argument or a result of a procedure, a global or an existential, and what is taken from it
abbrev pub is_interface_side : Base → List Label → Bool
is_interface_side (Proc n) w = is_interface w
is_interface_side (Global n) w = true
is_interface_side (Exist n) w = true
is_interface_side (Outer n) w = false

abbrev pub is_interface_variable : Dtv → Bool
is_interface_variable x = is_interface_side x.base x.word

-- a line of such variables
abbrev pub is_interface_line : Line → Bool
is_interface_line line = list_all is_interface_variable (sides line)

-- lines of such variables
abbrev pub AreInterfaceLines : List Line → Type 0
AreInterfaceLines lines = All (λ line. IsTrue (is_interface_line line)) lines

-- what of a variable is split: a procedure that is, and the label directly after it
abbrev pub interface_of : (ℕ → Bool) → Base → List Label → List Interface
interface_of is_split (Proc q) [] = []
interface_of is_split (Proc q) (l ∷ w) = if is_split q then record { procedure = q; label = l } ∷ [] else []
interface_of is_split (Global n) w = []
interface_of is_split (Exist n) w = []
interface_of is_split (Outer n) w = []

-- what of a line is split, its left side before its right
abbrev pub interfaces_of : (ℕ → Bool) → Line → List Interface
interfaces_of is_split line = flat_map (λ x. interface_of is_split x.base x.word) (sides line)

-- what of lines is split, in the order of the lines
abbrev pub interfaces : (ℕ → Bool) → List Line → List Interface
interfaces is_split lines = flat_map (interfaces_of is_split) lines

-- the variable of the base and the word, with an existential for each label of a split procedure
abbrev pub split_side : (ℕ → Bool) → (Interface → ℕ) → Base → List Label → Dtv
split_side is_split place (Proc q) [] = record { base = Proc q; word = [] }
split_side is_split place (Proc q) (l ∷ w) =
    if is_split q then record { base = Exist (place (record { procedure = q; label = l })); word = w } else record
    { base = Proc q; word = l ∷ w }
split_side is_split place (Global n) w = record { base = Global n; word = w }
split_side is_split place (Exist n) w = record { base = Exist n; word = w }
split_side is_split place (Outer n) w = record { base = Outer n; word = w }

abbrev pub split_variable : (ℕ → Bool) → (Interface → ℕ) → Dtv → Dtv
split_variable is_split place x = split_side is_split place x.base x.word

-- the line with each variable split
abbrev pub split_line : (ℕ → Bool) → (Interface → ℕ) → Line → Line
split_line is_split place l = map_line (split_variable is_split place) l

-- The procedures that are split are inside, and the lines name their arguments and results alone. Each of these has an
-- inside existential of its own, which the lines do not name.
pub record IsSplitting (inside : Base → Bool) (is_split : ℕ → Bool) (place : Interface → ℕ) (lines : List Line) : Type 0 where
  pub interface : (l : Line) (x : Dtv) (q : ℕ) → Contains lines l → HasSide l x → x.base ≡ Proc q → is_split q ≡ true →
      IsTrue (is_interface x.word)
  pub one_to_one : (a b : Interface) → Contains (interfaces is_split lines) a → Contains (interfaces is_split lines) b →
      place a ≡ place b → a ≡ b
  pub fresh : (a : Interface) → Contains (interfaces is_split lines) a → NamesBase lines (Exist (place a)) → ⊥
  pub procedure_inside : (q : ℕ) → is_split q ≡ true → inside (Proc q) ≡ true
  pub existential_inside : (a : Interface) → Contains (interfaces is_split lines) a → inside (Exist (place a)) ≡ true

-- the arguments and results of inside procedures may be split into an existential for each
abbrev pub SplittingLaw : Type 0
SplittingLaw =
    (order : Below) (inside : Base → Bool) (is_split : ℕ → Bool) (place : Interface → ℕ) (lines : List Line) →
    IsSplitting inside is_split place lines → Alike order inside lines (map (split_line is_split place) lines)
