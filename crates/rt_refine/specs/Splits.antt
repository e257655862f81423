-- Classes that are split until their members have the same lines but for classes.
use Rattle.std.specs.Prelude.{◌≡◌, ◌≢◌, ℕ, ◌+◌, ◌-◌, ◌<◌, ◌≤◌, ◌⊎◌, List, [], ◌∷◌, Bool, true, false}
use Rattle.rt_lines.specs.declared.variable.Base.{Base}
use Rattle.rt_lines.specs.declared.variable.Base.TheVariants.{Proc, Global, Exist, Outer}
use Rattle.rt_lines.specs.declared.variable.Dtv.{Dtv}
use Rattle.rt_lines.specs.declared.line.Line.{Line}
use Rattle.rt_lines.specs.declared.line.Line.TheVariants.{Same}
use Rattle.rt_lines.specs.Orders.{Below}
use Rattle.rt_lines.specs.Sides.{sides}
use Rattle.rt_rules.specs.Rules.{Derivable}
use Rattle.rt_rules.specs.Put.{exist}
use Rattle.rt_refine.specs.declared.uses.Side.{Side}
use Rattle.rt_refine.specs.Groups.{IsNamed}
use Rattle.rt_refine.specs.Refinements.{AreMatched, IsRefinement}
use Rattle.rt_refine.specs.Uses.{HaveSameUses}

-- members of one class stay in one if they have the same uses on the side, but for where variables move, and no others do
pub record IsSplit (side : Side) (lines : List Line) (moves old new : ℕ → ℕ) (changed : Bool) : Type 0 where
  pub least : (v : ℕ) → new v ≤ v
  pub own : (v : ℕ) → new (new v) ≡ new v
  pub alone : (v : ℕ) → (IsNamed lines v → ⊥) → new v ≡ v
  pub one : (v w : ℕ) → IsNamed lines v → IsNamed lines w → old v ≡ old w → HaveSameUses side lines moves v w →
      new v ≡ new w
  pub parts : (v w : ℕ) → new v ≡ new w → (v ≡ w) ⊎ ((old v ≡ old w) × HaveSameUses side lines moves v w)
  pub stays : changed ≡ false → (v : ℕ) → (new v ≡ old v) ⊎ (IsNamed lines v → ⊥)
  pub differs : changed ≡ true → (v : ℕ) × IsNamed lines v × (new v ≢ old v)

-- classes of one shape, in which the members of each class of each refinement are together
pub record AreClasses (lines : List Line) (class : ℕ → ℕ) : Type 0 where
  pub least : (v : ℕ) → class v ≤ v
  pub own : (v : ℕ) → class (class v) ≡ class v
  pub alone : (v : ℕ) → (IsNamed lines v → ⊥) → class v ≡ v
  pub shaped : (v w : ℕ) → class v ≡ class w → (v ≡ w) ⊎ ((order : Below) → Derivable order lines (Same (exist v) (exist w)))
  pub widest : (other : ℕ → ℕ) → IsRefinement lines other → (v w : ℕ) → other v ≡ other w → class v ≡ class w

-- how far the existentials of a base, of variables and of lines stand above the least of their classes
abbrev pub above_in_base : (ℕ → ℕ) → Base → ℕ
above_in_base class (Proc n) = 0
above_in_base class (Global n) = 0
above_in_base class (Exist n) = n - class n
above_in_base class (Outer n) = 0

abbrev pub above_in_sides : (ℕ → ℕ) → List Dtv → ℕ
above_in_sides class [] = 0
above_in_sides class (x ∷ xs) = above_in_base class x.base + above_in_sides class xs

abbrev pub above : (ℕ → ℕ) → List Line → ℕ
above class [] = 0
above class (l ∷ ls) = above_in_sides class (sides l) + above class ls

-- the classes split on both sides: where nothing changed, members of one class are matched
pub record IsSplitTwice (lines : List Line) (old new : ℕ → ℕ) (changed : Bool) : Type 0 where
  pub are : AreClasses lines new
  pub stable : changed ≡ false → (v w : ℕ) → new v ≡ new w → AreMatched lines new v w
  pub at_most : above new lines ≤ above old lines
  pub smaller : changed ≡ true → above new lines < above old lines
