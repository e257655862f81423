-- The laws that the functions of `laws` state.
use Rattle.std.specs.Prelude.{◌≡◌, ◌≢◌, ℕ, List, Bool, true}
use Rattle.rt_lines.specs.declared.label.Variance.{Variance}
use Rattle.rt_lines.specs.declared.variable.Base.{Base}
use Rattle.rt_lines.specs.declared.variable.Base.TheVariants.{Exist}
use Rattle.rt_lines.specs.declared.line.Line.{Line}
use Rattle.rt_lines.specs.Orders.{Below}
use Rattle.rt_rules.specs.Alike.{Alike}
use Rattle.rt_rules.specs.Laws.{NamesBase}
use Rattle.rt_refine.specs.Refinements.{refined}
use Rattle.rt_twins.specs.Twinnings.{IsTwinning, IsCoarsestTwinning}

-- where every existential is inside, the least of each class may take the others' places
abbrev pub TwinnedAlikeLaw : Type 0
TwinnedAlikeLaw =
    (order : Below) (inside : Base → Bool) (lines : List Line) (sign : Variance) (class : ℕ → ℕ) →
    ((n : ℕ) → inside (Exist n) ≡ true) →
    IsTwinning sign lines class → Alike order inside lines (refined class lines)

-- lines have one coarsest twinning of a sign at most
abbrev pub OneTwinningLaw : Type 0
OneTwinningLaw = (sign : Variance) (lines : List Line) (class other : ℕ → ℕ) → IsCoarsestTwinning sign lines class →
    IsCoarsestTwinning sign lines other → (n : ℕ) → class n ≡ other n

-- and so one list at most is left by it
abbrev pub OneTwinnedLaw : Type 0
OneTwinnedLaw = (sign : Variance) (lines : List Line) (class other : ℕ → ℕ) → IsCoarsestTwinning sign lines class →
    IsCoarsestTwinning sign lines other → refined class lines ≡ refined other lines

-- and it has no twinning of the sign that makes two existentials one
abbrev pub TwinnedRestLaw : Type 0
TwinnedRestLaw = (sign : Variance) (lines : List Line) (class other : ℕ → ℕ) → IsCoarsestTwinning sign lines class →
    IsTwinning sign (refined class lines) other → (n : ℕ) → other n ≡ n

-- what is left names bases that the lines name
abbrev pub TwinnedNamesLaw : Type 0
TwinnedNamesLaw = (sign : Variance) (lines : List Line) (class : ℕ → ℕ) (b : Base) → IsTwinning sign lines class →
    NamesBase (refined class lines) b → NamesBase lines b

-- and an existential that isn't the least of its class is named no longer
abbrev pub TwinnedLosesLaw : Type 0
TwinnedLosesLaw = (sign : Variance) (lines : List Line) (class : ℕ → ℕ) (n : ℕ) → IsTwinning sign lines class →
    class n ≢ n →
    NamesBase lines (Exist n) × (NamesBase (refined class lines) (Exist n) → ⊥)
