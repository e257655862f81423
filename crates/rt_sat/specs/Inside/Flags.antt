-- What is pushed from counts between parents, and has a way between children.
use Rattle.std.specs.Prelude.{◌≡◌, ℕ, ◌<◌, List, Bool, Option}
use Rattle.rt_lines.specs.declared.label.Label.{Label}
use Rattle.rt_lines.specs.declared.variable.Dtv.{Dtv}
use Rattle.rt_grid.specs.Tables.{count_at}
use Rattle.rt_sat.specs.declared.state.State.{State}
use Rattle.rt_sat.specs.declared.state.Edge.{Edge}
use Rattle.rt_sat.specs.Hints.{state_at}
use Rattle.rt_sat.specs.Numbered.{sign_of}
use Rattle.rt_sat.specs.Pushes.{HasWalk, IsChildOf, PushBy}
use Rattle.rt_sat.specs.Searches.{Allows}

-- what is pushed from a count to two children has a way
abbrev pub IsCovered : Bool → Option ℕ → List Edge → State → Label → State → Label → ℕ → Type 0
IsCovered flip most edges child l end m count =
    (k : ℕ) → PushBy flip l m count (sign_of child.contra) (sign_of end.contra) k → Allows most k → HasWalk edges child end k

-- what is pushed from a count to a parent, to its child of a number, has a way
abbrev pub IsCoveredAt : List Dtv → Bool → Option ℕ → List Edge → State → Label → State → ℕ → ℕ → Type 0
IsCoveredAt known flip most edges child l other count number =
    (end : State) (m : Label) → end.variable ≡ number → IsChildOf known end other m → IsCovered flip most edges child l end m count

-- what is pushed from a count to a parent has a way
abbrev pub IsCoveredTo : List Dtv → Bool → Option ℕ → List Edge → State → Label → State → ℕ → Type 0
IsCoveredTo known flip most edges child l other count =
    (end : State) (m : Label) → IsChildOf known end other m → IsCovered flip most edges child l end m count

-- what is pushed from the counts of a row to places of a class has a way
abbrev pub IsCoveredRow : List Dtv → Bool → Option ℕ → List Edge → State → Label → List ℕ → List ℕ → Type 0
IsCoveredRow known flip most edges child l members row =
    (j : ℕ) → count_at row j < 255 → IsCoveredTo known flip most edges child l (state_at members j) (count_at row j)
