-- Classes that are split until their members have the same uses of a sign but for classes.
use Rattle.std.specs.Prelude.{◌≡◌, ℕ, ◌<◌, ◌≤◌, ◌⊎◌, List, Bool, true, false}
use Rattle.rt_lines.specs.declared.label.Variance.{Variance}
use Rattle.rt_lines.specs.declared.line.Line.{Line}
use Rattle.rt_refine.specs.declared.uses.Side.{Side}
use Rattle.rt_refine.specs.declared.uses.Side.TheVariants.{Left, Right}
use Rattle.rt_refine.specs.Groups.{IsNamed}
use Rattle.rt_refine.specs.Splits.{above}
use Rattle.rt_refine.specs.Uses.{HaveSameUses}
use Rattle.rt_twins.specs.declared.parts.Part.TheVariants.{Both}
use Rattle.rt_twins.specs.Inside.Parts.{part_of}
use Rattle.rt_twins.specs.Twinnings.{AreMatched, LeadsOut, IsTwinning}

-- classes in which the members of each class of each twinning are together, and those of more than one lead out
pub record AreClasses (sign : Variance) (lines : List Line) (class : ℕ → ℕ) : Type 0 where
  pub least : (v : ℕ) → class v ≤ v
  pub own : (v : ℕ) → class (class v) ≡ class v
  pub alone : (v : ℕ) → (IsNamed lines v → ⊥) → class v ≡ v
  pub leads : (v w : ℕ) → class v ≡ class w → (v ≡ w) ⊎ LeadsOut sign lines v
  pub widest : (other : ℕ → ℕ) → IsTwinning sign lines other → (v w : ℕ) → other v ≡ other w → class v ≡ class w

-- members of one class have the same uses on the side beside what is used so itself
abbrev pub AreExact : Side → Variance → List Line → (ℕ → ℕ) → Type 0
AreExact side sign lines class = (v w : ℕ) → class v ≡ class w → HaveSameUses side (part_of sign Both lines) (λ n. n) v w

-- the same on both sides
pub record AreExactClasses (sign : Variance) (lines : List Line) (class : ℕ → ℕ) : Type 0 where
  pub are : AreClasses sign lines class
  pub left : AreExact Left sign lines class
  pub right : AreExact Right sign lines class

-- the classes split on both sides: where nothing changed, members of one class are matched
pub record IsSplitTwice (sign : Variance) (lines : List Line) (old new : ℕ → ℕ) (changed : Bool) : Type 0 where
  pub exact : AreExactClasses sign lines new
  pub stable : changed ≡ false → (v w : ℕ) → new v ≡ new w → AreMatched sign lines new v w
  pub at_most : above new lines ≤ above old lines
  pub smaller : changed ≡ true → above new lines < above old lines
