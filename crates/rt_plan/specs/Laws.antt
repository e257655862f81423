-- Laws of plans.
use Rattle.std.specs.Prelude.{◌≡◌, ℕ, ◌<◌, List, length}
use Rattle.rt_plan.specs.declared.event.Event.{Event}
use Rattle.rt_plan.specs.declared.event.Answer.TheVariants.{Done}
use Rattle.rt_plan.specs.declared.event.State.TheVariants.{Held}
use Rattle.rt_plan.specs.Plans.{AreLower, Board, applied, state_at}
use Rattle.rt_plan.specs.Driver.{Drives}

-- an answer other than `Done` leaves the board as it was
abbrev pub Undone : Type 0
Undone = (board : Board) (event : Event) → ((applied board event).0 ≡ Done → ⊥) → (applied board event).1 ≡ board

-- the same workers, groups and callees
pub record IsOfPlan (before after : Board) : Type 0 where
  pub workers : after.workers ≡ before.workers
  pub callees : after.callees ≡ before.callees
  pub groups : length after.states ≡ length before.states

-- an event changes what groups are, and nothing else
abbrev pub Kept : Type 0
Kept = (board : Board) (event : Event) → IsOfPlan board (applied board event).1

-- each group that is held is held by one of the four workers that are driven
abbrev pub AreDriven : Board → Type 0
AreDriven board = (g w : ℕ) → state_at board g ≡ Held w → w < 4

-- each number drives each board, of groups that call groups of lower numbers, to its end
abbrev pub Driven : Type 0
Driven = (number : ℕ) (board : Board) → AreLower board.callees → AreDriven board → (claims : List (ℕ × ℕ)) × Drives number board claims

-- and in one way alone
abbrev pub OneDrive : Type 0
OneDrive = (number : ℕ) (board : Board) (claims others : List (ℕ × ℕ)) → Drives number board claims → Drives number board others → claims ≡ others
