-- Existentials that do nothing but hold fields: what is stored in a field, and what is loaded from it. Each field becomes an existential
-- of its own.
--
-- Of an existential n that holds the fields f and g, the lines
--     x <= n.store.f    n.load.f <= y    x <= n.store.g    n.load.g.load <= z
-- become, with the existential 7 for f and 8 for g,
--     x <= 7            7 <= y           x <= 8            8.load <= z
--     same 7 n.store.f  same 7 n.load.f  same 8 n.store.g  same 8 n.load.g
-- so what is stored in a field still comes to what is loaded from it, and n is left with its shape alone.
use Rattle.std.specs.Prelude.{◌≡◌, ℕ, ℤ, ◌++◌, List, [], ◌∷◌, map, flat_map, Contains, Bool, true, false, cond, Option, Some, None}
use Rattle.rt_lines.specs.declared.label.Label.{Label}
use Rattle.rt_lines.specs.declared.label.Label.TheVariants.{In, Out, Load, Store, Field}
use Rattle.rt_lines.specs.declared.label.Variance.{Variance}
use Rattle.rt_lines.specs.declared.label.Variance.TheVariants.{Co, Contra}
use Rattle.rt_lines.specs.declared.variable.Base.{Base}
use Rattle.rt_lines.specs.declared.variable.Base.TheVariants.{Proc, Global, Exist, Outer}
use Rattle.rt_lines.specs.declared.variable.Dtv.{Dtv}
use Rattle.rt_lines.specs.declared.line.Line.{Line}
use Rattle.rt_lines.specs.declared.line.Line.TheVariants.{Var, Same, Sub, Low, Up}
use Rattle.rt_lines.specs.Words.{variance_of_word}
use Rattle.rt_rules.specs.Put.{exist}

-- the letter is a load or a store
abbrev pub is_access : Label → Bool
is_access (In l) = false
is_access (Out n) = false
is_access Load = true
is_access Store = true
is_access (Field w k) = false

abbrev pub IsField : Label → Type 0
IsField f = (w : ℕ) × (k : ℤ) × (f ≡ Field w k)

-- what is loaded from a field of the existential, or stored in it, with more letters
abbrev pub part : ℕ → Label → Label → List Label → Dtv
part n a f u = record { base = Exist n; word = a ∷ f ∷ u }

pub record IsPart (n : ℕ) (x : Dtv) : Type 0 where
  pub access : Label
  pub field : Label
  pub more : List Label
  pub is_access : is_access access ≡ true
  pub is_field : IsField field
  pub same : x ≡ part n access field more

-- the variable is a part of the existential, if it is one of the existential at all, and its word has the sign
abbrev pub IsHeld : ℕ → Variance → Dtv → Type 0
IsHeld n sign x = x.base ≡ Exist n → IsPart n x × (variance_of_word x.word ≡ sign)

-- in a `<=` line or bound the existential stands with nothing but parts: on the left side, and below a constant, with those through which
-- something leaves it, else with those through which something comes to it
abbrev pub IsHolding : ℕ → Line → Type 0
IsHolding n (Var x) = Unit {0}
IsHolding n (Same x y) = Unit {0}
IsHolding n (Sub x y) = IsHeld n Co x × IsHeld n Contra y
IsHolding n (Low k x) = IsHeld n Contra x
IsHolding n (Up x k) = IsHeld n Co x

-- the existential does nothing but hold fields
abbrev pub IsRecord : List Line → ℕ → Type 0
IsRecord lines n = (l : Line) → Contains lines l → IsHolding n l

-- the number of the existential that a part becomes, by its existential, access and field
abbrev pub number_of : (ℕ → Label → Option ℕ) → ℕ → Label → Label → Option ℕ
number_of parts n a f = cond (is_access a) (parts n f) None

-- the existential of the number with the letters, or else the variable
abbrev pub moved_to : Option ℕ → List Label → Dtv → Dtv
moved_to (Some m) u x = record { base = Exist m; word = u }
moved_to None u x = x

abbrev pub moved_word : (ℕ → Label → Option ℕ) → ℕ → List Label → Dtv
moved_word parts n [] = record { base = Exist n; word = [] }
moved_word parts n (a ∷ []) = record { base = Exist n; word = a ∷ [] }
moved_word parts n (a ∷ f ∷ u) = moved_to (number_of parts n a f) u (part n a f u)

abbrev pub moved_at : (ℕ → Label → Option ℕ) → Base → List Label → Dtv
moved_at parts (Proc n) w = record { base = Proc n; word = w }
moved_at parts (Global n) w = record { base = Global n; word = w }
moved_at parts (Exist n) w = moved_word parts n w
moved_at parts (Outer n) w = record { base = Outer n; word = w }

-- the variable, with the field's own existential in the place of a field that has one
abbrev pub moved : (ℕ → Label → Option ℕ) → Dtv → Dtv
moved parts x = moved_at parts x.base x.word

-- the `<=` line or bound with its variables moved; a line of shape stays
abbrev pub moved_line : (ℕ → Label → Option ℕ) → Line → Line
moved_line parts (Var x) = Var x
moved_line parts (Same x y) = Same x y
moved_line parts (Sub x y) = Sub (moved parts x) (moved parts y)
moved_line parts (Low k x) = Low k (moved parts x)
moved_line parts (Up x k) = Up (moved parts x) k

-- the number, if there is one, and the variable
abbrev pub move_to : Option ℕ → Dtv → List (ℕ × Dtv)
move_to (Some m) z = (m, z) ∷ []
move_to None z = []

abbrev pub word_move : (ℕ → Label → Option ℕ) → ℕ → List Label → List (ℕ × Dtv)
word_move parts n [] = []
word_move parts n (a ∷ []) = []
word_move parts n (a ∷ f ∷ u) = move_to (number_of parts n a f) (part n a f [])

abbrev pub base_move : (ℕ → Label → Option ℕ) → Base → List Label → List (ℕ × Dtv)
base_move parts (Proc n) w = []
base_move parts (Global n) w = []
base_move parts (Exist n) w = word_move parts n w
base_move parts (Outer n) w = []

-- of a part that moves, the number of the field's own existential, and the field
abbrev pub move : (ℕ → Label → Option ℕ) → Dtv → List (ℕ × Dtv)
move parts x = base_move parts x.base x.word

-- the variables of a `<=` line or bound
abbrev pub flow_sides : Line → List Dtv
flow_sides (Var x) = []
flow_sides (Same x y) = []
flow_sides (Sub x y) = x ∷ y ∷ []
flow_sides (Low k x) = x ∷ []
flow_sides (Up x k) = x ∷ []

abbrev pub moves : (ℕ → Label → Option ℕ) → List Line → List (ℕ × Dtv)
moves parts lines = flat_map (move parts) (flat_map flow_sides lines)

-- the existential has the shape of the field
abbrev pub shape_line : ℕ × Dtv → Line
shape_line e = Same (exist e.0) e.1

-- the lines with their fields moved, and behind them the shapes of these
abbrev pub split : (ℕ → Label → Option ℕ) → List Line → List Line
split parts lines = map (moved_line parts) lines ++ map shape_line (moves parts lines)
