-- Which bases have variables of one number.
use Rattle.std.specs.Prelude.{◌≡◌, ℕ, ◌<◌, List, length, slice_index_or}
use Rattle.rt_lines.specs.declared.variable.Base.{Base}
use Rattle.rt_lines.specs.declared.variable.Base.TheVariants.{Exist}
use Rattle.rt_lines.specs.declared.variable.Dtv.{Dtv}
use Rattle.rt_rules.specs.Put.{exist}
use Rattle.rt_reduce.specs.Inside.Alike.{HasNumber, no_side}
use Rattle.rt_reduce.specs.declared.bases.Bases.{Bases}
use Rattle.rt_reduce.specs.declared.bases.Bases.TheVariants.{None as Nothing, One, Several}

-- the base may be among them
abbrev pub Notes : Bases → Base → Type 0
Notes Nothing base = ⊥
Notes (One known) base = known ≡ base
Notes Several base = Unit {0}

-- a base of a number more
pub record IsNoted (number : ℕ) (base : Base) (old new : List Bases) : Type 0 where
  pub noted : Notes (slice_index_or new number Several) base
  pub kept : (k : ℕ) (b : Base) → Notes (slice_index_or old k Several) b → Notes (slice_index_or new k Several) b

-- no variable of another base has the number of the existential
abbrev pub IsAloneAt : List Dtv → List ℕ → List Bases → ℕ → Type 0
IsAloneAt named equals bases n =
    (k : ℕ) × HasNumber named equals (exist n) k × ((b : Base) → Notes (slice_index_or bases k Several) b → b ≡ Exist n)

-- each side's base is noted at the side's number
abbrev pub AreNoted : List Dtv → List ℕ → List Bases → Type 0
AreNoted sides numbers bases =
    (i : ℕ) → i < length sides →
    Notes (slice_index_or bases (slice_index_or numbers i 0) Several) (slice_index_or sides i no_side).base
