-- The law that the function of `laws` states.
use Rattle.std.specs.Prelude.{◌≡◌, ◌↔◌, ℕ, List, Bool, true, Option, Some}
use Rattle.rt_lines.specs.declared.label.Label.{Label}
use Rattle.rt_lines.specs.declared.variable.Base.{Base}
use Rattle.rt_lines.specs.declared.variable.Base.TheVariants.{Exist}
use Rattle.rt_lines.specs.declared.line.Line.{Line}
use Rattle.rt_lines.specs.Orders.{Below}
use Rattle.rt_rules.specs.Alike.{Alike}
use Rattle.rt_rules.specs.Laws.{NamesBase}
use Rattle.rt_record.specs.Records.{IsField, IsRecord, split}
use Rattle.rt_record.specs.Slots.{AreRecords, numbers}

-- those of the flags do nothing but hold fields; of these, fields get numbers, each one of its own, that the lines don't name; a field
-- without a number stays, and one that no line has may have a number
pub record AreParts (lines : List Line) (holds : ℕ → Bool) (parts : ℕ → Label → Option ℕ) : Type 0 where
  pub records : (n : ℕ) → holds n ≡ true → IsRecord lines n
  pub of_records : (n : ℕ) (f : Label) (m : ℕ) → parts n f ≡ Some m → holds n ≡ true
  pub fields : (n : ℕ) (f : Label) (m : ℕ) → parts n f ≡ Some m → IsField f
  pub fresh : (n : ℕ) (f : Label) (m : ℕ) → parts n f ≡ Some m → NamesBase lines (Exist m) → ⊥
  pub one_to_one : (n k : ℕ) (f g : Label) (m : ℕ) → parts n f ≡ Some m → parts k g ≡ Some m → (n ≡ k) × (f ≡ g)

-- where every existential is inside, the outside can derive the same when the fields of such existentials become existentials of their own
abbrev pub SplitsAlikeLaw : Type 0
SplitsAlikeLaw =
    (order : Below) (inside : Base → Bool) (lines : List Line) (holds : ℕ → Bool) (parts : ℕ → Label → Option ℕ) →
    ((n : ℕ) → inside (Exist n) ≡ true) → AreParts lines holds parts → Alike order inside lines (split parts lines)

-- the numbers that the list of fields gives are such
abbrev pub PartsLaw : Type 0
PartsLaw = (lines : List Line) (holds : ℕ → Bool) → AreRecords lines holds → AreParts lines holds (numbers holds lines)

-- one list at most is left
abbrev pub OneSplitLaw : Type 0
OneSplitLaw = (lines : List Line) (holds other : ℕ → Bool) → AreRecords lines holds → AreRecords lines other →
    split (numbers holds lines) lines ≡ split (numbers other lines) lines

-- but for existentials the same bases are named
abbrev pub SplitsNamesLaw : Type 0
SplitsNamesLaw = (lines : List Line) (parts : ℕ → Label → Option ℕ) (b : Base) → ((n : ℕ) → b ≡ Exist n → ⊥) →
    NamesBase (split parts lines) b ↔ NamesBase lines b
