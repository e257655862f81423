-- Queues of variables, of which the first comes out first.
use Rattle.std.specs.Prelude.{◌≡◌, ℕ, List, ◌∷◌, Contains, true}
use Rattle.std.specs.Global.{Vec}
use Rattle.rt_lines.specs.declared.variable.Dtv.{Dtv}
use Rattle.rt_reduction.specs.Before.{variable_key, comes_before}
use Rattle.rt_emit.specs.Keys.{numbers}

-- each variable stands with its key
abbrev pub AreKeyed : List (Vec (Vec ℕ) × Dtv) → Type 0
AreKeyed entries = (e : Vec (Vec ℕ) × Dtv) → Contains entries e → numbers e.0 ≡ variable_key e.1

-- the first variable was taken out
pub record IsPopped (old new : List Dtv) (x : Dtv) : Type 0 where
  pub taken : old ≡ x ∷ new
  pub first : (y : Dtv) → Contains new y → comes_before x y ≡ true
