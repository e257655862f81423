-- The shape of lines written anew.
use Rattle.std.specs.Prelude.{◌≡◌, ◌≢◌, ◌↔◌, ℕ, ◌⊎◌, List, [], ◌∷◌, ◌++◌, Contains, Bool, true, false, cond}
use Rattle.std.specs.List.{filter}
use Rattle.rt_lines.specs.declared.label.Label.{Label}
use Rattle.rt_lines.specs.declared.label.Variance.TheVariants.{Co, Contra}
use Rattle.rt_lines.specs.declared.variable.Base.{Base}
use Rattle.rt_lines.specs.declared.variable.Base.TheVariants.{Proc, Global, Exist, Outer}
use Rattle.rt_lines.specs.declared.variable.Dtv.{Dtv}
use Rattle.rt_lines.specs.declared.line.Line.{Line}
use Rattle.rt_lines.specs.declared.line.Line.TheVariants.{Var, Same, Sub, Low, Up}
use Rattle.rt_lines.specs.Equality.{variable_eq}
use Rattle.rt_lines.specs.Orders.{Below}
use Rattle.rt_rules.specs.Rules.{longer, HasSide, Derivable}
use Rattle.rt_rules.specs.Laws.{NamesBase}
use Rattle.rt_rules.specs.Put.{HasUse}
use Rattle.rt_rules.specs.Reduced.{IsJoined}
use Rattle.rt_polar.specs.Tidied.{tidied}
use Rattle.rt_reduction.specs.Before.{level, comes_before}

-- no procedure itself, and nothing of another object
abbrev pub IsOfScheme : Base → List Label → Type 0
IsOfScheme (Proc n) w = w ≢ []
IsOfScheme (Global n) w = Unit {0}
IsOfScheme (Exist n) w = Unit {0}
IsOfScheme (Outer n) w = ⊥

-- each side is an argument or a result of a procedure, a global, an existential, or taken from one
abbrev pub AreOfScheme : List Line → Type 0
AreOfScheme lines = (l : Line) (x : Dtv) → Contains lines l → HasSide l x → IsOfScheme x.base x.word

-- `<=` lines and bounds
abbrev pub is_flow : Line → Bool
is_flow (Var x) = false
is_flow (Same x y) = false
is_flow (Sub x y) = true
is_flow (Low k x) = true
is_flow (Up x k) = true

abbrev pub flow_lines : List Line → List Line
flow_lines lines = filter is_flow (tidied lines)

module _ (order : Below) (lines : List Line) where
  -- bases that are kept: existentials that have a use, globals, and procedures
  abbrev pub IsKept : Base → Type 0
  IsKept (Exist n) = (l : Line) × Contains (flow_lines lines) l × (HasUse Co n l ⊎ HasUse Contra n l)
  IsKept (Global n) = NamesBase lines (Global n)
  IsKept (Proc n) = NamesBase lines (Proc n)
  IsKept (Outer n) = ⊥

  -- there is the variable, it has a kept base, and it is no procedure itself
  pub record IsOfKept (x : Dtv) : Type 0 where
    pub kept : IsKept x.base
    pub there : Derivable order lines (Var x)
    pub no_procedure : (n : ℕ) → x.base ≡ Proc n → x.word ≢ []

  -- the first of the variables of one shape
  pub record IsWord (x : Dtv) : Type 0 where
    pub is_of : IsOfKept x
    pub first : (y : Dtv) → IsOfKept y → Derivable order lines (Same x y) → comes_before y x ≡ false

  -- a kept existential or global itself, an argument or a result of a procedure, or a letter after a word
  pub data IsWritten : Dtv → Type 0 where
    of_base : (x : Dtv) → IsOfKept x → level x.base x.word ≡ 0 → IsWritten x
    of_letter : (x : Dtv) (l : Label) → IsWord x → Derivable order lines (Var (longer x l)) → IsWritten (longer x l)

  -- the line that says the shape of a variable by its word
  abbrev pub shape_line : Dtv → Dtv → Line
  shape_line x word = cond (variable_eq x word) (Var x) (Same x word)

  pub record IsShapeLine (l : Line) : Type 0 where
    pub variable : Dtv
    pub word : Dtv
    pub written : IsWritten variable
    pub is_word : IsWord word
    pub one_shape : Derivable order lines (Same variable word)
    pub line : l ≡ shape_line variable word

-- the variable of a line, the left one of two
abbrev pub first_side : Line → Dtv
first_side (Var x) = x
first_side (Same x y) = x
first_side (Sub x y) = x
first_side (Low k x) = x
first_side (Up x k) = x

-- the lines of the shape, in the order of their variables
pub record AreShapeLines (order : Below) (lines shape : List Line) : Type 0 where
  pub worded : (x : Dtv) → IsOfKept order lines x → (word : Dtv) × IsWord order lines word × Derivable order lines (Same x word)
  pub each : (l : Line) → Contains shape l ↔ IsShapeLine order lines l
  pub ascending : (before after : List Line) (a b : Line) → shape ≡ before ++ a ∷ b ∷ after →
      comes_before (first_side a) (first_side b) ≡ true

-- a procedure or a global
abbrev pub IsFixed : Base → Type 0
IsFixed (Proc n) = Unit {0}
IsFixed (Global n) = Unit {0}
IsFixed (Exist n) = ⊥
IsFixed (Outer n) = ⊥

-- a chain of lines leads from the base to a procedure or a global
abbrev pub IsAnchored : List Line → Base → Type 0
IsAnchored lines a = (b : Base) × IsFixed b × IsJoined lines a b

-- the lines for which something holds
pub data Keeps (P : Line → Type 0) : List Line → List Line → Type 0 where
  ends : Keeps P [] []
  stays : (l : Line) (lines kept : List Line) → P l → Keeps P lines kept → Keeps P (l ∷ lines) (l ∷ kept)
  goes : (l : Line) (lines kept : List Line) → (P l → ⊥) → Keeps P lines kept → Keeps P (l ∷ lines) kept

-- the lines of which a chain leads to a procedure or a global
abbrev pub AreJoined : List Line → List Line → Type 0
AreJoined lines joined = Keeps (λ l. IsAnchored lines (first_side l).base) lines joined

-- the `<=` lines and bounds, and the shape written anew over kept bases, but for what no chain of these joins to a procedure or a global
pub record IsEmitted (order : Below) (lines emitted : List Line) : Type 0 where
  pub shape : List Line
  pub are_shape : AreShapeLines order lines shape
  pub joined : AreJoined (flow_lines lines ++ shape) emitted
