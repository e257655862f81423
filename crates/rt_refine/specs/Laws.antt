-- The laws that the functions of `laws` state.
use Rattle.std.specs.Prelude.{◌≡◌, ◌↔◌, ℕ, List, Contains, Bool, true}
use Rattle.rt_lines.specs.declared.variable.Base.{Base}
use Rattle.rt_lines.specs.declared.variable.Base.TheVariants.{Exist}
use Rattle.rt_lines.specs.declared.variable.Dtv.{Dtv}
use Rattle.rt_lines.specs.declared.line.Line.{Line}
use Rattle.rt_lines.specs.declared.line.Line.TheVariants.{Low, Up}
use Rattle.rt_lines.specs.Orders.{Below}
use Rattle.rt_rules.specs.Rules.{HasSide}
use Rattle.rt_rules.specs.Alike.{Alike}
use Rattle.rt_rules.specs.Laws.{NamesBase}
use Rattle.rt_refine.specs.Refinements.{IsRefinement, IsCoarsest, move, refined}

-- where every existential is inside, the least of each class may take the others' places
abbrev pub RefinedAlikeLaw : Type 0
RefinedAlikeLaw =
    (order : Below) (inside : Base → Bool) (lines : List Line) (class : ℕ → ℕ) → ((n : ℕ) → inside (Exist n) ≡ true) →
    IsRefinement lines class → Alike order inside lines (refined class lines)

-- lines have one coarsest refinement at most
abbrev pub OneCoarsestLaw : Type 0
OneCoarsestLaw = (lines : List Line) (class other : ℕ → ℕ) → IsCoarsest lines class → IsCoarsest lines other → (n : ℕ) →
    class n ≡ other n

-- and so one list at most is left by it
abbrev pub OneRefinedLaw : Type 0
OneRefinedLaw = (lines : List Line) (class other : ℕ → ℕ) → IsCoarsest lines class → IsCoarsest lines other →
    refined class lines ≡ refined other lines

-- and it has no refinement that makes two existentials one
abbrev pub RefinedRestLaw : Type 0
RefinedRestLaw = (lines : List Line) (class other : ℕ → ℕ) → IsCoarsest lines class → IsRefinement (refined class lines) other →
    (n : ℕ) → other n ≡ n

-- each side of what is left is a side of the lines but for its class
abbrev pub RefinedSidesLaw : Type 0
RefinedSidesLaw =
    (lines : List Line) (class : ℕ → ℕ) (l : Line) (x : Dtv) → Contains (refined class lines) l → HasSide l x →
    (k : Line) × (y : Dtv) × Contains lines k × HasSide k y × (move class y ≡ x)

-- what is left names bases that the lines name
abbrev pub RefinedNamesLaw : Type 0
RefinedNamesLaw = (lines : List Line) (class : ℕ → ℕ) (b : Base) → IsRefinement lines class →
    NamesBase (refined class lines) b →
    NamesBase lines b

-- and of each class the least existential alone
abbrev pub RefinedLeastLaw : Type 0
RefinedLeastLaw = (lines : List Line) (class : ℕ → ℕ) (n : ℕ) → IsRefinement lines class →
    NamesBase (refined class lines) (Exist n) →
    class n ≡ n

-- the same constants bound some variable from below, and the same ones from above
abbrev pub RefinedConstantsLaw : Type 0
RefinedConstantsLaw =
    (lines : List Line) (class : ℕ → ℕ) (k : ℕ) →
    (((x : Dtv) × Contains (refined class lines) (Low k x)) ↔ ((x : Dtv) × Contains lines (Low k x))) ×
    (((x : Dtv) × Contains (refined class lines) (Up x k)) ↔ ((x : Dtv) × Contains lines (Up x k)))
