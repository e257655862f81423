-- The number of a word among those that differ from it in load against store.
use Rattle.std.specs.Prelude.{◌≡◌, ℕ, ◌+◌, ◌*◌, ◌<◌, ◌≤◌, ◌↔◌, List, [], ◌∷◌, Contains, Bool, true, false, IsTrue, length, count_by}
use Rattle.std.specs.Prelude.{drop, slice_index_or}
use Rattle.rt_lines.specs.declared.label.Label.{Label}
use Rattle.rt_lines.specs.declared.label.Label.TheVariants.{Load, Store}
use Rattle.rt_lines.specs.declared.label.Variance.TheVariants.{Co}
use Rattle.rt_lines.specs.declared.variable.Base.{Base}
use Rattle.rt_lines.specs.declared.variable.Dtv.{Dtv}
use Rattle.rt_lines.specs.declared.line.Line.{Line}
use Rattle.rt_lines.specs.declared.line.Line.TheVariants.{Var, Sub}
use Rattle.rt_lines.specs.Words.{variance_of_word}
use Rattle.rt_lines.specs.Orders.{Below}
use Rattle.rt_rules.specs.Rules.{longer, Derivable}
use Rattle.rt_bridge.specs.Counted.{bit, IsPointer}

-- a binary digit for each place that flips, the leftmost one the lowest: whether the rest from there keeps the order
abbrev pub number_of : List Label → List Bool → ℕ
number_of [] flips = 0
number_of (l ∷ w) [] = 0
number_of (l ∷ w) (true ∷ flips) = bit (variance_of_word (l ∷ w)) + 2 * number_of w flips
number_of (l ∷ w) (false ∷ flips) = number_of w flips

-- how many places flip
abbrev pub count_true : List Bool → ℕ
count_true flips = count_by (λ b. b) flips

-- a place that flips holds a load or a store
abbrev pub AreAtPointers : List Label → List Bool → Type 0
AreAtPointers word flips = (i : ℕ) → i < length word → IsTrue (slice_index_or flips i false) →
    IsPointer (slice_index_or word i Load)

-- from each place that flips the rest keeps the order
abbrev pub AreAllOnes : List Label → List Bool → Type 0
AreAllOnes word flips = (i : ℕ) → i < length word → IsTrue (slice_index_or flips i false) → variance_of_word (drop i word) ≡ Co

-- two words that differ in load against store alone, and only where a place flips
pub data AreSpellings : List Bool → List Label → List Label → Type 0 where
  at_end : AreSpellings [] [] []
  equal_at : {flips : List Bool} {v w : List Label} (b : Bool) (l : Label) → AreSpellings flips v w →
      AreSpellings (b ∷ flips) (l ∷ v) (l ∷ w)
  flipped_at : {flips : List Bool} {v w : List Label} (l m : Label) → IsPointer l → IsPointer m → AreSpellings flips v w →
      AreSpellings (true ∷ flips) (l ∷ v) (m ∷ w)

-- the variable can be read and written through
abbrev pub HasBoth : Below → List Line → Dtv → Type 0
HasBoth order lines x = Derivable order lines (Var (longer x Load)) × Derivable order lines (Var (longer x Store))

-- which places of a word after a variable flip: those with a load or a store where the variable before them can be read and written through
pub data AreFlips (order : Below) (lines : List Line) : Dtv → List Label → List Bool → Type 0 where
  no_places : (x : Dtv) → AreFlips order lines x [] []
  flips : (x : Dtv) (l : Label) (w : List Label) (flips : List Bool) → IsPointer l → HasBoth order lines x →
      AreFlips order lines (longer x l) w flips → AreFlips order lines x (l ∷ w) (true ∷ flips)
  stands : (x : Dtv) (l : Label) (w : List Label) (flips : List Bool) → (IsPointer l × HasBoth order lines x → ⊥) →
      AreFlips order lines (longer x l) w flips → AreFlips order lines x (l ∷ w) (false ∷ flips)

-- only `var` lines
abbrev pub AreVars : List Line → Type 0
AreVars lines = (l : Line) → Contains lines l → (x : Dtv) × (l ≡ Var x)

-- the chain: of `var` lines alone one variable of a base lies below another exactly if both exist, are spellings of each other, and the
-- number doesn't fall
abbrev pub ChainLaw : Type 0
ChainLaw =
    (order : Below) (lines : List Line) (b : Base) (r s : List Label) (flips : List Bool) → AreVars lines →
    AreFlips order lines (record { base = b; word = [] }) r flips →
    Derivable order lines (Sub (record { base = b; word = r }) (record { base = b; word = s }))
    ↔ (Derivable order lines (Var (record { base = b; word = r })) × Derivable order lines (Var (record { base = b; word = s })) ×
    AreSpellings flips r s × (number_of r flips ≤ number_of s flips))
