-- Existentials that give their places away, one after another.
use Rattle.std.specs.Prelude.{◌≡◌, ℕ, ◌<◌, List, ◌∷◌, ◌++◌, Bool}
use Rattle.rt_lines.specs.declared.label.Variance.{Variance}
use Rattle.rt_lines.specs.declared.variable.Base.TheVariants.{Exist}
use Rattle.rt_lines.specs.declared.variable.Dtv.{Dtv}
use Rattle.rt_lines.specs.declared.line.Line.{Line}
use Rattle.rt_lines.specs.declared.line.Line.TheVariants.{Var}
use Rattle.rt_rules.specs.Laws.{NamesBase}
use Rattle.rt_rules.specs.Put.{use_of, put_lines}
use Rattle.rt_polar.specs.Polar.{IsCandidate, HasCandidate}
use Rattle.rt_polar.specs.Tidied.{tidied}

-- The existential n gives its place to its candidate, and the lines are tidied. The use that is put goes, where another line names n;
-- where none does, the variable still exists.
pub data Exchanges (n : ℕ) (lines : List Line) : List Line → Type 0 where
  goes : (sign : Variance) (place : ℕ) (left : Bool) (z : Dtv) (before after : List Line) → IsCandidate n lines sign place left z →
      lines ≡ before ++ use_of sign n z ∷ after
      → NamesBase (before ++ after) (Exist n) → Exchanges n lines (tidied (put_lines n z (before ++ after)))
  exists_still : (sign : Variance) (place : ℕ) (left : Bool) (z : Dtv) (before after : List Line) →
      IsCandidate n lines sign place left z → lines ≡ before ++ use_of sign n z ∷ after
      → (NamesBase (before ++ after) (Exist n) → ⊥) → Exchanges n lines (tidied (before ++ Var z ∷ after))

-- the least existential that has a candidate
pub record IsLeast (n : ℕ) (lines : List Line) : Type 0 where
  pub has : HasCandidate n lines
  pub least : (m : ℕ) → m < n → HasCandidate m lines → ⊥

-- the least existential with a candidate gives its place away, again and again, until none has one
pub data Puts (left : List Line) : List Line → Type 0 where
  none_left : ((n : ℕ) → HasCandidate n left → ⊥) → Puts left left
  puts : (n : ℕ) (lines between : List Line) → IsLeast n lines → Exchanges n lines between → Puts left between → Puts left lines
