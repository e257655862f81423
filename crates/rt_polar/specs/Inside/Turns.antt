-- Whose turn it is to give a place away, and what is left.
use Rattle.std.specs.Prelude.{◌≡◌, ℕ, suc, ◌<◌, ◌⊎◌, List, ◌∷◌, ◌++◌, Bool, true, Option, take, drop}
use Rattle.rt_lines.specs.declared.label.Variance.{Variance}
use Rattle.rt_lines.specs.declared.variable.Base.TheVariants.{Exist}
use Rattle.rt_lines.specs.declared.variable.Dtv.{Dtv}
use Rattle.rt_lines.specs.declared.line.Line.{Line}
use Rattle.rt_lines.specs.declared.line.Line.TheVariants.{Var}
use Rattle.rt_rules.specs.Laws.{NamesBase}
use Rattle.rt_rules.specs.Put.{put_lines}
use Rattle.rt_polar.specs.Inside.Places.{IsSoleAt, IsTurn, lines_of}
use Rattle.rt_polar.specs.Tidied.{tidied}

-- the least existential with a candidate, and its candidate; each other one that has a candidate is pending
pub record IsNextTurn (n : ℕ) (z : Dtv) (slot : ℕ) (slots : List (Option Line)) (pending : ℕ → Bool) : Type 0 where
  pub sign : Variance
  pub turn : IsTurn sign n z slots slot
  pub least : (m : ℕ) → m < n → (other : Variance) (y : Dtv) (i : ℕ) → IsSoleAt other m y slots i → ⊥
  pub others : (other : Variance) (m : ℕ) (y : Dtv) (i : ℕ) → IsSoleAt other m y slots i → (m ≡ n) ⊎ (pending m ≡ true)

-- the lines of the other slots
abbrev pub other_lines : List (Option Line) → ℕ → List Line
other_lines slots slot = lines_of (take slot slots) ++ lines_of (drop (suc slot) slots)

-- z takes the place of the existential n in the lines of the other slots; where none names n, z still exists
abbrev pub GivesAway : ℕ → Dtv → List (Option Line) → ℕ → List Line → Type 0
GivesAway n z slots slot lines =
    (NamesBase (other_lines slots slot) (Exist n) × (lines ≡ tidied (put_lines n z (other_lines slots slot))))
    ⊎ ((NamesBase (other_lines slots slot) (Exist n) → ⊥) ×
    (lines ≡ tidied (lines_of (take slot slots) ++ Var z ∷ lines_of (drop (suc slot) slots))))
