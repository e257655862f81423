-- Whether something is left for another round.
use Rattle.std.specs.Prelude.{◌≡◌, ℕ, ◌⊎◌, List, Contains, Bool, false}
use Rattle.rt_lines.specs.declared.label.Variance.TheVariants.{Co, Contra}
use Rattle.rt_lines.specs.declared.variable.Base.{Base}
use Rattle.rt_lines.specs.declared.variable.Base.TheVariants.{Proc, Global, Exist, Outer}
use Rattle.rt_lines.specs.declared.variable.Dtv.{Dtv}
use Rattle.rt_lines.specs.declared.line.Line.{Line}
use Rattle.rt_rules.specs.Rules.{HasSide}
use Rattle.rt_rules.specs.Laws.{NamesBase}
use Rattle.rt_rules.specs.Put.{HasUse}
use Rattle.rt_polar.specs.Polar.{HasCandidate}
use Rattle.rt_reduction.specs.Simplifies.{HasNoTwins}

-- no existential has a candidate, and none is a twin
pub record IsSimplified (lines : List Line) : Type 0 where
  pub no_candidate : (n : ℕ) → HasCandidate n lines → ⊥
  pub no_twins : HasNoTwins Co lines × HasNoTwins Contra lines

-- the line has a use of the existential
abbrev pub IsUsedBy : ℕ → Line → Type 0
IsUsedBy n l = HasUse Co n l ⊎ HasUse Contra n l

-- each existential that the lines name has a use
abbrev pub AreUsed : List Line → Type 0
AreUsed lines = (n : ℕ) → NamesBase lines (Exist n) → (l : Line) × Contains lines l × IsUsedBy n l

-- the lines name the existential, and it has no use
abbrev pub IsUnused : List Line → ℕ → Type 0
IsUnused lines n = NamesBase lines (Exist n) × ((l : Line) → Contains lines l → IsUsedBy n l → ⊥)

-- the base is an existential, and not among those that are found
abbrev pub IsMissing : (ℕ → Bool) → Base → Type 0
IsMissing found (Exist n) = found n ≡ false
IsMissing found (Proc n) = ⊥
IsMissing found (Global n) = ⊥
IsMissing found (Outer n) = ⊥

-- a side of the line is of such an existential
abbrev pub HasMissing : (ℕ → Bool) → Line → Type 0
HasMissing found l = (x : Dtv) × HasSide l x × IsMissing found x.base

-- a side of one of the lines is
abbrev pub HaveMissing : (ℕ → Bool) → List Line → Type 0
HaveMissing found lines = (l : Line) × Contains lines l × HasMissing found l
