-- The laws that the functions of `laws` state.
use Rattle.std.specs.Prelude.{◌≡◌, ℕ, List, ◌∷◌, ◌++◌, map, All, Contains, Option, Some, Bool, true, false}
use Rattle.rt_lines.specs.declared.variable.Base.{Base}
use Rattle.rt_lines.specs.declared.variable.Base.TheVariants.{Exist}
use Rattle.rt_lines.specs.declared.label.Variance.{Variance}
use Rattle.rt_lines.specs.declared.variable.Dtv.{Dtv}
use Rattle.rt_lines.specs.declared.line.Line.{Line}
use Rattle.rt_lines.specs.Orders.{Below}
use Rattle.rt_lines.specs.Numbering.{deduplicated, numbered}
pub use Rattle.rt_lines.specs.Sides.{renamed}
use Rattle.rt_rules.specs.Rules.{HasSide, Derivable}
use Rattle.rt_rules.specs.Alike.{Alike, IsOutside, map_line}
use Rattle.rt_rules.specs.Put.{put_lines, put_each, IsFollowing, IsOnlyUse, IsPutting}

-- the only definition, or the only consumer, may take an inside existential's place
abbrev pub SubstitutionLaw : Type 0
SubstitutionLaw =
    (order : Below) (inside : Base → Bool) (lines : List Line) (sign : Variance) (n : ℕ) (z : Dtv) →
    inside (Exist n) ≡ true → IsOnlyUse sign n z lines → Alike order inside lines (put_lines n z lines)

-- each of many inside existentials may give its place to its only definition, all at once
abbrev pub PuttingLaw : Type 0
PuttingLaw =
    (order : Below) (inside : Base → Bool) (lines : List Line) (place : ℕ → Option Dtv) →
    IsPutting place lines → ((n : ℕ) (z : Dtv) → place n ≡ Some z → inside (Exist n) ≡ true) →
    Alike order inside lines (map (map_line (put_each place)) lines)

-- each of many inside existentials may give its place to what all of its definitions become
abbrev pub FollowingLaw : Type 0
FollowingLaw =
    (order : Below) (inside : Base → Bool) (lines : List Line) (place : ℕ → Option Dtv) →
    IsFollowing place lines → ((n : ℕ) (z : Dtv) → place n ≡ Some z → inside (Exist n) ≡ true) →
    Alike order inside lines (map (map_line (put_each place)) lines)

-- lists alike stay alike under more lines of the outside
abbrev pub UnionLaw : Type 0
UnionLaw =
    (order : Below) (inside : Base → Bool) (first second more : List Line) →
    All (IsOutside inside) more → Alike order inside first second → Alike order inside (first ++ more) (second ++ more)

-- some line has a side of this base
abbrev pub NamesBase : List Line → Base → Type 0
NamesBase lines b = (l : Line) × (x : Dtv) × Contains lines l × HasSide l x × (x.base ≡ b)

-- keeps the outside where it is and the inside inside, and sends no two bases that the lines name to one
pub record IsRenaming (inside : Base → Bool) (rename : Base → Base) (lines : List Line) : Type 0 where
  pub outside_stays : (b : Base) → inside b ≡ false → rename b ≡ b
  pub inside_stays : (b : Base) → inside b ≡ true → inside (rename b) ≡ true
  pub one_to_one : (a b : Base) → NamesBase lines a → NamesBase lines b → rename a ≡ rename b → a ≡ b

-- the names of inside bases do not matter
abbrev pub RenamingLaw : Type 0
RenamingLaw =
    (order : Below) (inside : Base → Bool) (rename : Base → Base) (lines : List Line) →
    IsRenaming inside rename lines → Alike order inside lines (map (map_line (renamed rename)) lines)

-- a line that the others derive may be dropped
abbrev pub DropLaw : Type 0
DropLaw = (order : Below) (inside : Base → Bool) (lines : List Line) (l : Line) → Derivable order lines l →
    Alike order inside (l ∷ lines) lines

-- the outside can derive the same from lines and from the same lines, each once
abbrev pub DeduplicationLaw : Type 0
DeduplicationLaw = (order : Below) (inside : Base → Bool) (lines : List Line) → Alike order inside lines (deduplicated lines)

-- where every existential is inside, the outside can derive the same from lines and from the numbered ones
abbrev pub NumberingLaw : Type 0
NumberingLaw =
    (order : Below) (inside : Base → Bool) (lines : List Line) →
    ((n : ℕ) → inside (Exist n) ≡ true) → Alike order inside lines (numbered lines)
