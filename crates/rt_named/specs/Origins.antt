-- How each named variable is made of an earlier one.
use Rattle.std.specs.Prelude.{◌≡◌, ℕ, ◌<◌, List, [], ◌∷◌, ◌++◌, fold, length, slice_index_or}
use Rattle.rt_lines.specs.declared.variable.Base.TheVariants.{Proc}
use Rattle.rt_lines.specs.declared.variable.Dtv.{Dtv}
use Rattle.rt_rules.specs.Rules.{longer}
use Rattle.rt_named.specs.declared.origin.Origin.{Origin}
use Rattle.rt_named.specs.declared.origin.Origin.TheVariants.{Bare, Longer}

-- what a place past the end is taken to hold
abbrev pub no_variable : Dtv
no_variable = record { base = Proc 0; word = [] }

-- the variable that is made of the earlier ones
abbrev pub made : List Dtv → Origin → Dtv
made earlier (Bare b) = record { base = b; word = [] }
made earlier (Longer n l) = longer (slice_index_or earlier n no_variable) l

-- it is made of one below the count
abbrev pub IsBelow : Origin → ℕ → Type 0
IsBelow (Bare b) count = Unit {0}
IsBelow (Longer n l) count = n < count

-- the variables that origins make, one after the other
abbrev pub variables : List Origin → List Dtv
variables origins = fold (λ (known : List Dtv) (o : Origin). known ++ made known o ∷ []) [] origins

-- each is made of an earlier one, and no two are one
pub record AreMade (origins : List Origin) (known : List Dtv) : Type 0 where
  pub size : length known ≡ length origins
  pub few : length origins < 4294967296
  pub below : (i : ℕ) → i < length origins → IsBelow (slice_index_or origins i (Bare (Proc 0))) i
  pub each : (i : ℕ) → i < length origins →
      slice_index_or known i no_variable ≡ made known (slice_index_or origins i (Bare (Proc 0)))
  pub distinct : (i j : ℕ) → i < length origins → j < length origins →
      slice_index_or known i no_variable ≡ slice_index_or known j no_variable → i ≡ j
