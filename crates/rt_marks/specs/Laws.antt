-- The laws that the functions of `laws` state: each step of the reduction leaves to the outside what it can derive loosely.
use Rattle.std.specs.Prelude.{◌≡◌, ℕ, List, [], map, Bool, true, Option}
use Rattle.rt_lines.specs.declared.label.Label.{Label}
use Rattle.rt_lines.specs.declared.label.Variance.{Variance}
use Rattle.rt_lines.specs.declared.variable.Base.{Base}
use Rattle.rt_lines.specs.declared.variable.Base.TheVariants.{Exist}
use Rattle.rt_lines.specs.declared.variable.Dtv.{Dtv}
use Rattle.rt_lines.specs.declared.line.Line.{Line}
use Rattle.rt_lines.specs.Orders.{Below}
use Rattle.rt_lines.specs.Numbering.{deduplicated, numbered}
use Rattle.rt_rules.specs.Alike.{is_inside_for, map_line}
use Rattle.rt_rules.specs.Laws.{renamed, IsRenaming}
use Rattle.rt_rules.specs.Put.{put_lines, IsOnlyUse}
use Rattle.rt_scheme.specs.declared.interface.Interface.{Interface}
use Rattle.rt_scheme.specs.Splitting.{AreInterfaceLines, split_line, IsSplitting}
use Rattle.rt_scheme.specs.SplitExistentials.{split_for}
use Rattle.rt_polar.specs.Puts.{Exchanges, Puts}
use Rattle.rt_polar.specs.Tidied.{tidied}
use Rattle.rt_refine.specs.Refinements.{IsRefinement, refined}
use Rattle.rt_twins.specs.Twinnings.{IsTwinning}
use Rattle.rt_trim.specs.Idle.{AreIdle, trimmed}
use Rattle.rt_record.specs.Records.{split}
use Rattle.rt_record.specs.Laws.{AreParts}
use Rattle.rt_reduction.specs.Drops.{Drops}
use Rattle.rt_reduction.specs.Emits.{AreOfScheme, IsEmitted}
use Rattle.rt_reduction.specs.Merges.{Merges}
use Rattle.rt_reduction.specs.Rounds.{IsReducedForm}
use Rattle.rt_reduction.specs.Simplifies.{Simplifies}
use Rattle.rt_marks.specs.Outsides.{LooselyAlike}

-- each line once
abbrev pub DeduplicationLaw : Type 0
DeduplicationLaw = (order : Below) (inside : Base → Bool) (lines : List Line) → LooselyAlike order inside lines (deduplicated lines)

-- tidied lines
abbrev pub TidyingLaw : Type 0
TidyingLaw = (order : Below) (inside : Base → Bool) (lines : List Line) → LooselyAlike order inside lines (tidied lines)

-- new names of inside bases
abbrev pub RenamingLaw : Type 0
RenamingLaw =
    (order : Below) (inside : Base → Bool) (rename : Base → Base) (lines : List Line) → IsRenaming inside rename lines →
    LooselyAlike order inside lines (map (map_line (renamed rename)) lines)

-- existentials numbered
abbrev pub NumberingLaw : Type 0
NumberingLaw =
    (order : Below) (inside : Base → Bool) (lines : List Line) → ((n : ℕ) → inside (Exist n) ≡ true) →
    LooselyAlike order inside lines (numbered lines)

-- arguments and results of inside procedures split into an existential for each
abbrev pub SplittingLaw : Type 0
SplittingLaw =
    (order : Below) (inside : Base → Bool) (is_split : ℕ → Bool) (place : Interface → ℕ) (lines : List Line) →
    IsSplitting inside is_split place lines → LooselyAlike order inside lines (map (split_line is_split place) lines)

-- those of all procedures but one
abbrev pub SplitForLaw : Type 0
SplitForLaw = (order : Below) (own : ℕ) (lines : List Line) → AreInterfaceLines lines →
    LooselyAlike order (is_inside_for own) lines (split_for own lines)

-- the only definition, or the only consumer, in an inside existential's place
abbrev pub SubstitutionLaw : Type 0
SubstitutionLaw =
    (order : Below) (inside : Base → Bool) (lines : List Line) (sign : Variance) (n : ℕ) (z : Dtv) →
    inside (Exist n) ≡ true → IsOnlyUse sign n z lines → LooselyAlike order inside lines (put_lines n z lines)

-- an inside existential that gives its place to its candidate
abbrev pub PuttingOneLaw : Type 0
PuttingOneLaw =
    (order : Below) (inside : Base → Bool) (n : ℕ) (lines after : List Line) →
    inside (Exist n) ≡ true → Exchanges n lines after → LooselyAlike order inside lines after

-- existentials that give their places away, one after another
abbrev pub PuttingLaw : Type 0
PuttingLaw =
    (order : Below) (inside : Base → Bool) (lines left : List Line) →
    ((n : ℕ) → inside (Exist n) ≡ true) → Puts left lines → LooselyAlike order inside lines left

-- the least of each class of a refinement in the others' places
abbrev pub RefinedAlikeLaw : Type 0
RefinedAlikeLaw =
    (order : Below) (inside : Base → Bool) (lines : List Line) (class : ℕ → ℕ) → ((n : ℕ) → inside (Exist n) ≡ true) →
    IsRefinement lines class → LooselyAlike order inside lines (refined class lines)

-- the least of each class of twins in the others' places
abbrev pub TwinnedAlikeLaw : Type 0
TwinnedAlikeLaw =
    (order : Below) (inside : Base → Bool) (lines : List Line) (sign : Variance) (class : ℕ → ℕ) →
    ((n : ℕ) → inside (Exist n) ≡ true) →
    IsTwinning sign lines class → LooselyAlike order inside lines (refined class lines)

-- places given away, and twins that become one
abbrev pub SimplifiesAlikeLaw : Type 0
SimplifiesAlikeLaw =
    (order : Below) (inside : Base → Bool) (lines left : List Line) → ((n : ℕ) → inside (Exist n) ≡ true) →
    Simplifies left lines →
    LooselyAlike order inside lines left

-- lines of idle existentials that become their shapes
abbrev pub TrimsAlikeLaw : Type 0
TrimsAlikeLaw =
    (order : Below) (inside : Base → Bool) (lines : List Line) (idle : ℕ → Bool) → ((n : ℕ) → inside (Exist n) ≡ true) →
    AreIdle lines idle → LooselyAlike order inside lines (trimmed idle lines)

-- fields of existentials that do nothing but hold fields, each an existential of its own
abbrev pub SplitsAlikeLaw : Type 0
SplitsAlikeLaw =
    (order : Below) (inside : Base → Bool) (lines : List Line) (holds : ℕ → Bool) (parts : ℕ → Label → Option ℕ) →
    ((n : ℕ) → inside (Exist n) ≡ true) → AreParts lines holds parts → LooselyAlike order inside lines (split parts lines)

-- the shape written anew
abbrev pub EmitsAlikeLaw : Type 0
EmitsAlikeLaw =
    (order : Below) (inside : Base → Bool) (lines emitted : List Line) → ((n : ℕ) → inside (Exist n) ≡ true) →
    AreOfScheme lines →
    IsEmitted order lines emitted → LooselyAlike order inside lines emitted

-- equals that become one
abbrev pub MergesAlikeLaw : Type 0
MergesAlikeLaw =
    (order : Below) (inside : Base → Bool) (lines left : List Line) → ((n : ℕ) → inside (Exist n) ≡ true) →
    Merges order left lines →
    LooselyAlike order inside lines left

-- lines dropped that others derive
abbrev pub DropsAlikeLaw : Type 0
DropsAlikeLaw = (order : Below) (inside : Base → Bool) (lines kept : List Line) → Drops order [] lines kept →
    LooselyAlike order inside lines kept

-- the reduced form
abbrev pub FormAlikeLaw : Type 0
FormAlikeLaw =
    (order : Below) (inside : Base → Bool) (lines form : List Line) → ((n : ℕ) → inside (Exist n) ≡ true) →
    AreOfScheme lines →
    IsReducedForm order lines form → LooselyAlike order inside lines form
