-- One line that goes or stays.
use Rattle.std.specs.Prelude.{◌≡◌, ℕ, ◌≤◌, ◌⊎◌, ◌++◌, List, Bool, true, false, Some, drop, length, slice_get, slice_index_or}
use Rattle.std.specs.Prelude.{slice_set, take}
use Rattle.std.specs.List.{remove}
use Rattle.rt_lines.specs.declared.line.Line.{Line}
use Rattle.rt_lines.specs.Orders.{Below}
use Rattle.rt_rules.specs.Rules.{Derivable}
use Rattle.rt_reduction.specs.Drops.{Drops}
use Rattle.rt_reduction.specs.Emits.{is_flow}
use Rattle.rt_witness.specs.declared.witnesses.Witnesses.{Witnesses as Witnessed}
use Rattle.rt_witness.specs.Witnesses.{IsLeft, IsWitnesses}
use Rattle.rt_sure.specs.declared.fate.Fate.{Fate}
use Rattle.rt_sure.specs.declared.fate.Fate.TheVariants.{Stays, Goes, Open}
use Rattle.rt_outline.specs.Lines.{standing}
use Rattle.rt_sure.specs.Fates.{AreGoing, fate_at}

-- the lines are the same, or the one at the place is gone
abbrev pub IsKeptOrGone : List Line → ℕ → List Line → Type 0
IsKeptOrGone lines place left = (left ≡ lines) ⊎ (left ≡ remove lines place)

-- the line at the place goes if the others derive it, and stays if they don't
abbrev pub Decides : Below → List Line → ℕ → List Line → Type 0
Decides order lines place left =
    (l : Line) → l ≡ slice_index_or lines place l →
    (Derivable order (remove lines place) l × (left ≡ remove lines place)) ⊎
    ((Derivable order (remove lines place) l → ⊥) × (left ≡ lines))

-- where the flag is set, the lines before the place derive the line at it
abbrev pub IsToldAt : Bool → List Line → ℕ → Type 0
IsToldAt told lines place =
    (order : Below) (l : Line) → slice_get lines place ≡ Some l → told ≡ true → Derivable order (take place lines) l

-- each line whose flag is set follows from those before it
abbrev pub AreTold : List Line → List Bool → Type 0
AreTold lines told =
    (order : Below) (i : ℕ) (l : Line) → slice_get lines i ≡ Some l → slice_index_or told i false ≡ true →
    Derivable order (take i lines) l

-- the line follows from those that stand without it, and its flag is cleared
pub record IsSpared (witnesses : Witnessed) (stands : List Bool) (line : Line) (place : ℕ) (flags : List Bool) : Type 0 where
  pub cleared : flags ≡ slice_set stands place false
  pub derived : (order : Below) (lines left : List Line) → IsWitnesses lines witnesses →
      IsLeft lines (slice_set stands place false) left →
      Derivable order left line

-- the line at the place is gone and its flag cleared, or the line is there, its flag set
abbrev pub IsMoved : List Line → List Bool → ℕ → List Line → List Bool → Type 0
IsMoved lines stands place left flags =
    ((left ≡ remove lines place) × (flags ≡ slice_set stands place false)) ⊎
    ((left ≡ lines) × (flags ≡ slice_set (slice_set stands place false) place true))

-- what is left of the lines from a place on stands behind the lines before it
pub record AreLeft (order : Below) (lines : List Line) (place : ℕ) (left : List Line) : Type 0 where
  pub kept : List Line
  pub within : place ≤ length lines
  pub stand : left ≡ take place lines ++ kept
  pub drops : Drops order (take place lines) (drop place lines) kept

-- no line from a place on is a `<=` line or a bound
abbrev pub AreShape : List Line → ℕ → Type 0
AreShape lines place = (i : ℕ) (l : Line) → place ≤ i → slice_get lines i ≡ Some l → is_flow l ≡ false

-- the line at an index follows from none of the others, however many of them stand
abbrev pub IsStaying : Below → List Line → ℕ → Type 0
IsStaying order lines i =
    (l : Line) → slice_get lines i ≡ Some l → (stands : List Bool) → slice_index_or stands i false ≡ false →
    Derivable order (standing lines stands) l → ⊥

-- each line that is flagged follows from none of the others
abbrev pub AreStaying : Below → List Line → List Bool → Type 0
AreStaying order lines stays = (i : ℕ) → slice_index_or stays i false ≡ true → IsStaying order lines i

-- what is known of the line at an index is the same, or nothing was known, and now it is known to stay
abbrev pub IsSettled : Below → List Line → ℕ → Fate → Fate → Type 0
IsSettled order lines i fate now = (now ≡ fate) ⊎ ((fate ≡ Open) × (now ≡ Stays) × IsStaying order lines i)

-- what is known to become of lines: those that stay follow from none of the others, and stand
pub record AreFated (order : Below) (lines : List Line) (stands : List Bool) (fates : List Fate) : Type 0 where
  pub staying : (i : ℕ) → fate_at fates i ≡ Stays → IsStaying order lines i
  pub going : AreGoing order lines fates
  pub stand : (i : ℕ) → fate_at fates i ≡ Stays → slice_index_or stands i false ≡ true

-- what is known to become of the line at a place: it stays, and the others don't derive it, or it goes, and they do
pub record IsFatedAt (order : Below) (fate : Fate) (lines : List Line) (place : ℕ) : Type 0 where
  pub stays : (l : Line) → slice_get lines place ≡ Some l → fate ≡ Stays → Derivable order (remove lines place) l → ⊥
  pub goes : (l : Line) → slice_get lines place ≡ Some l → fate ≡ Goes → Derivable order (remove lines place) l
