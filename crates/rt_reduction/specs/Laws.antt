-- The laws that the functions of `laws` state.
use Rattle.std.specs.Prelude.{◌≡◌, ◌≢◌, ◌↔◌, ℕ, ◌⊎◌, List, [], ◌∷◌, ◌++◌, Contains, AllPairs, Bool, true}
use Rattle.rt_lines.specs.declared.label.Variance.{Variance}
use Rattle.rt_lines.specs.declared.label.Variance.TheVariants.{Co, Contra}
use Rattle.rt_lines.specs.declared.variable.Base.{Base}
use Rattle.rt_lines.specs.declared.variable.Base.TheVariants.{Proc, Exist}
use Rattle.rt_lines.specs.declared.variable.Dtv.{Dtv}
use Rattle.rt_lines.specs.declared.line.Line.{Line}
use Rattle.rt_lines.specs.declared.line.Line.TheVariants.{Same, Sub}
use Rattle.rt_lines.specs.Orders.{Below}
use Rattle.rt_lines.specs.Numbering.{numbered}
use Rattle.rt_rules.specs.Rules.{HasSide, Derivable}
use Rattle.rt_rules.specs.Alike.{Alike}
use Rattle.rt_rules.specs.Laws.{NamesBase}
use Rattle.rt_rules.specs.Put.{exist, HasUse}
use Rattle.rt_rules.specs.Reduced.{IsReduced}
use Rattle.rt_polar.specs.Polar.{HasCandidate}
use Rattle.rt_reduction.specs.Constants.{NamesConstant}
use Rattle.rt_reduction.specs.Drops.{Drops}
use Rattle.rt_reduction.specs.Emits.{AreOfScheme, IsAnchored, IsEmitted}
use Rattle.rt_reduction.specs.Merges.{Merges}
use Rattle.rt_reduction.specs.Rounds.{IsRound, IsUnfinished, IsReducedForm}
use Rattle.rt_reduction.specs.Simplifies.{HasNoTwins, Simplifies}

-- one list at most is kept
abbrev pub OneDropLaw : Type 0
OneDropLaw = (order : Below) (lines first second : List Line) → Drops order [] lines first → Drops order [] lines second →
    first ≡ second

-- what is kept stood there
abbrev pub KeptLaw : Type 0
KeptLaw = (order : Below) (lines kept : List Line) → Drops order [] lines kept → (l : Line) → Contains kept l → Contains lines l

-- each line is derivable from what is kept
abbrev pub KeptDeriveLaw : Type 0
KeptDeriveLaw = (order : Below) (lines kept : List Line) → Drops order [] lines kept → (l : Line) → Contains lines l →
    Derivable order kept l

-- the outside can derive the same from what is kept
abbrev pub DropsAlikeLaw : Type 0
DropsAlikeLaw = (order : Below) (inside : Base → Bool) (lines kept : List Line) → Drops order [] lines kept →
    Alike order inside lines kept

-- no kept line is derivable from the other ones
abbrev pub NoneToSpareLaw : Type 0
NoneToSpareLaw =
    (order : Below) (lines kept : List Line) → Drops order [] lines kept →
    (before after : List Line) (l : Line) → kept ≡ before ++ l ∷ after → Derivable order (before ++ after) l → ⊥

-- where every existential is inside, the outside can derive the same from what is left when places were given away and twins became one
abbrev pub SimplifiesAlikeLaw : Type 0
SimplifiesAlikeLaw =
    (order : Below) (inside : Base → Bool) (lines left : List Line) → ((n : ℕ) → inside (Exist n) ≡ true) →
    Simplifies left lines →
    Alike order inside lines left

-- one list at most is left
abbrev pub OneSimpleLaw : Type 0
OneSimpleLaw = (lines left other : List Line) → Simplifies left lines → Simplifies other lines → left ≡ other

-- no existential of it has a candidate, and none is a twin
abbrev pub SimplifiesRestLaw : Type 0
SimplifiesRestLaw = (lines left : List Line) → Simplifies left lines →
    ((n : ℕ) → HasCandidate n left → ⊥) × ((sign : Variance) → HasNoTwins sign left)

-- no line puts a variable beside itself
abbrev pub HasNoSelf : List Line → Type 0
HasNoSelf lines = (x : Dtv) → (Contains lines (Sub x x) → ⊥) × (Contains lines (Same x x) → ⊥)

-- where every existential is inside, the outside can derive the same from what is left
abbrev pub MergesAlikeLaw : Type 0
MergesAlikeLaw =
    (order : Below) (inside : Base → Bool) (lines left : List Line) → ((n : ℕ) → inside (Exist n) ≡ true) →
    Merges order left lines →
    Alike order inside lines left

-- one list at most is left
abbrev pub OneMergeLaw : Type 0
OneMergeLaw = (order : Below) (lines left other : List Line) → Merges order left lines → Merges order other lines → left ≡ other

-- no existential that is left equals a side of another base
abbrev pub NoEqualLaw : Type 0
NoEqualLaw =
    (order : Below) (lines left : List Line) → Merges order left lines → (n : ℕ) (z : Dtv) (l : Line) → Contains left l →
    HasSide l z →
    z.base ≢ Exist n → Derivable order left (Sub (exist n) z) → Derivable order left (Sub z (exist n)) → ⊥

-- where no line puts a variable beside itself, none of what is left does
abbrev pub MergesNoSelfLaw : Type 0
MergesNoSelfLaw = (order : Below) (lines left : List Line) → Merges order left lines → HasNoSelf lines → HasNoSelf left

-- Where every existential is inside, and each side is an argument or a result of a procedure, a global, an existential, or taken from one,
-- the outside can
-- derive the same from what is emitted.
abbrev pub EmitsAlikeLaw : Type 0
EmitsAlikeLaw =
    (order : Below) (inside : Base → Bool) (lines emitted : List Line) → ((n : ℕ) → inside (Exist n) ≡ true) →
    AreOfScheme lines →
    IsEmitted order lines emitted → Alike order inside lines emitted

-- and so is each side of what is emitted
abbrev pub EmitsOfSchemeLaw : Type 0
EmitsOfSchemeLaw = (order : Below) (lines emitted : List Line) → AreOfScheme lines → IsEmitted order lines emitted →
    AreOfScheme emitted

-- one list at most is emitted
abbrev pub OneEmitLaw : Type 0
OneEmitLaw = (order : Below) (lines first second : List Line) → IsEmitted order lines first → IsEmitted order lines second →
    first ≡ second

-- each existential that is named has a use
abbrev pub EmitsUsedLaw : Type 0
EmitsUsedLaw =
    (order : Below) (lines emitted : List Line) → AreOfScheme lines → IsEmitted order lines emitted →
    (n : ℕ) → NamesBase emitted (Exist n) → (l : Line) × Contains emitted l × (HasUse Co n l ⊎ HasUse Contra n l)

-- a chain joins each existential that is named to a procedure or a global
abbrev pub EmitsJoinedLaw : Type 0
EmitsJoinedLaw = (order : Below) (lines emitted : List Line) → IsEmitted order lines emitted → (n : ℕ) →
    NamesBase emitted (Exist n) →
    IsAnchored emitted (Exist n)

-- no line puts a variable beside itself
abbrev pub EmitsNoSelfLaw : Type 0
EmitsNoSelfLaw = (order : Below) (lines emitted : List Line) → IsEmitted order lines emitted → HasNoSelf emitted

-- lines have one reduced form at most
abbrev pub OneFormLaw : Type 0
OneFormLaw = (order : Below) (lines first second : List Line) → IsReducedForm order lines first → IsReducedForm order lines second →
    first ≡ second

-- where every existential is inside, the outside can derive the same from the reduced form
abbrev pub FormAlikeLaw : Type 0
FormAlikeLaw =
    (order : Below) (inside : Base → Bool) (lines form : List Line) → ((n : ℕ) → inside (Exist n) ≡ true) →
    AreOfScheme lines →
    IsReducedForm order lines form → Alike order inside lines form

-- the sides of the reduced form are such sides again, of procedures that the lines name
abbrev pub FormSidesLaw : Type 0
FormSidesLaw =
    (order : Below) (lines form : List Line) → AreOfScheme lines → IsReducedForm order lines form →
    AreOfScheme form × ((n : ℕ) → NamesBase form (Proc n) → NamesBase lines (Proc n))

-- a reduced form that names one procedure at most has nothing to spare
abbrev pub FormReducedLaw : Type 0
FormReducedLaw =
    (order : Below) (own : ℕ) (lines form : List Line) → ((n : ℕ) → NamesBase form (Proc n) → n ≡ own) →
    IsReducedForm order lines form → IsReduced order (Proc own) form

-- each constant of the reduced form stands in the lines
abbrev pub FormConstantsLaw : Type 0
FormConstantsLaw = (order : Below) (lines form : List Line) → IsReducedForm order lines form → (k : ℕ) → NamesConstant form k →
    NamesConstant lines k

-- lines with nothing to spare have nothing to spare when their existentials are numbered
abbrev pub NumberedReducedLaw : Type 0
NumberedReducedLaw = (order : Below) (own : ℕ) (lines : List Line) → IsReduced order (Proc own) lines →
    IsReduced order (Proc own) (numbered lines)

-- nor in another order, each once
abbrev pub ReorderedReducedLaw : Type 0
ReorderedReducedLaw =
    (order : Below) (own : Base) (lines other : List Line) → ((l : Line) → Contains lines l ↔ Contains other l) →
    AllPairs (λ a b. a ≢ b) other →
    IsReduced order own lines → IsReduced order own other

-- a round names no base anew
abbrev pub RoundNamesLaw : Type 0
RoundNamesLaw = (order : Below) (lines after : List Line) → IsRound order lines after → (b : Base) → NamesBase after b →
    NamesBase lines b

-- where something is left to do, a round loses an existential
abbrev pub RoundLosesLaw : Type 0
RoundLosesLaw =
    (order : Below) (lines after : List Line) → AreOfScheme lines → IsRound order lines after → IsUnfinished lines →
    (n : ℕ) × NamesBase lines (Exist n) × (NamesBase after (Exist n) → ⊥)
