-- What becomes of lines, whatever becomes of others.
use Rattle.std.specs.Prelude.{◌≡◌, ◌↔◌, ℕ, ◌<◌, ◌∷◌, List, Contains, Bool, true, false, Some, slice_get, slice_index_or}
use Rattle.rt_lines.specs.declared.line.Line.{Line}
use Rattle.rt_lines.specs.Orders.{Below}
use Rattle.rt_rules.specs.Rules.{Derivable}
use Rattle.rt_sure.specs.declared.fate.Fate.{Fate}
use Rattle.rt_sure.specs.declared.fate.Fate.TheVariants.{Stays, Goes, Open}

-- the fate at an index, past the end an open one
abbrev pub fate_at : List Fate → ℕ → Fate
fate_at fates i = slice_index_or fates i Open

-- the flag at an index, past the end none
abbrev pub flag_at : List Bool → ℕ → Bool
flag_at flags i = slice_index_or flags i false

-- those lines stay that are flagged
abbrev pub DoStay : List Bool → List Fate → Type 0
DoStay stays fates = (i : ℕ) → fate_at fates i ≡ Stays ↔ flag_at stays i ≡ true

-- the list has each line that stays
abbrev pub HasStaying : List Line → List Fate → List Line → Type 0
HasStaying lines fates left = (j : ℕ) (m : Line) → slice_get lines j ≡ Some m → fate_at fates j ≡ Stays → Contains left m

-- the list has each line before an index
abbrev pub HasBefore : List Line → ℕ → List Line → Type 0
HasBefore lines i left = (j : ℕ) (m : Line) → j < i → slice_get lines j ≡ Some m → Contains left m

-- the list derives each of the lines
abbrev pub DerivesAll : Below → List Line → List Line → Type 0
DerivesAll order left lines = (m : Line) → Contains lines m → Derivable order left m

-- a line that goes follows from each list that has those that stay and those before it and that, with it, derives all
abbrev pub AreGoing : Below → List Line → List Fate → Type 0
AreGoing order lines fates =
    (i : ℕ) (l : Line) → slice_get lines i ≡ Some l → fate_at fates i ≡ Goes → (left : List Line) →
    HasStaying lines fates left → HasBefore lines i left → DerivesAll order (l ∷ left) lines → Derivable order left l

-- each of the lines is one that is flagged
abbrev pub AreSure : List Line → List Bool → List Line → Type 0
AreSure lines stays sure = (m : Line) → Contains sure m → (j : ℕ) × (slice_get lines j ≡ Some m) × (flag_at stays j ≡ true)
