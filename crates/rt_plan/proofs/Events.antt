-- What an event leaves as it was.
use Rattle.std.proofs.Common.{◌≡◌, ℕ, Bool, true, false, cond, Option, Some, None, refl}
use Rattle.std.proofs.lemmas.List.{length-set}
use Rattle.rt_plan.specs.declared.event.Event.{Event}
use Rattle.rt_plan.specs.declared.event.Event.TheVariants.{Claim, Publish, Abandon}
use Rattle.rt_plan.specs.declared.event.Answer.TheVariants.{Done, AllDone}
use Rattle.rt_plan.specs.declared.event.State.{State}
use Rattle.rt_plan.specs.declared.event.State.TheVariants.{Open, Held, Published}
use Rattle.rt_plan.specs.Plans.{Board, by_event, claim, claim_by, first_open, first_ready, held_by, is_done, leave, with_state}
use Rattle.rt_plan.specs.Laws.{IsOfPlan, Kept, Undone}

module _ (board : Board) where
  undone_leave : (state : State) (o : Option ℕ) → ((leave board state o).0 ≡ Done → ⊥) → (leave board state o).1 ≡ board
  undone_leave state None never = refl
  undone_leave state (Some g) never = absurd (never refl)

  undone_claim_by : (w : ℕ) (first ready : Option ℕ) → ((claim_by board w first ready).0 ≡ Done → ⊥) → (claim_by board w first ready).1 ≡ board
  undone_claim_by w None ready never = refl
  undone_claim_by w (Some g) None never = refl
  undone_claim_by w (Some g) (Some h) never = absurd (never refl)

  undone_claim : (w : ℕ) (o : Option ℕ) → ((claim board w o).0 ≡ Done → ⊥) → (claim board w o).1 ≡ board
  undone_claim w (Some g) never = refl
  undone_claim w None never = undone_claim_by w (first_open board) (first_ready board) never

  undone_event : (event : Event) → ((by_event board event).0 ≡ Done → ⊥) → (by_event board event).1 ≡ board
  undone_event (Claim w) never = undone_claim w (held_by board w) never
  undone_event (Publish w) never = undone_leave Published (held_by board w) never
  undone_event (Abandon w) never = undone_leave Open (held_by board w) never

  same : IsOfPlan board board
  same = record { workers = refl; callees = refl; groups = refl }

  written : (g : ℕ) (state : State) → IsOfPlan board (with_state board g state)
  written g state = record { workers = refl; callees = refl; groups = length-set board.states g state }

  kept_leave : (state : State) (o : Option ℕ) → IsOfPlan board (leave board state o).1
  kept_leave state None = same
  kept_leave state (Some g) = written g state

  kept_claim_by : (w : ℕ) (first ready : Option ℕ) → IsOfPlan board (claim_by board w first ready).1
  kept_claim_by w None ready = same
  kept_claim_by w (Some g) None = same
  kept_claim_by w (Some g) (Some h) = written h (Held w)

  kept_claim : (w : ℕ) (o : Option ℕ) → IsOfPlan board (claim board w o).1
  kept_claim w (Some g) = same
  kept_claim w None = kept_claim_by w (first_open board) (first_ready board)

  kept_event : (event : Event) → IsOfPlan board (by_event board event).1
  kept_event (Claim w) = kept_claim w (held_by board w)
  kept_event (Publish w) = kept_leave Published (held_by board w)
  kept_event (Abandon w) = kept_leave Open (held_by board w)

pub undone : Undone
undone board event = by (is_done board)
  where
    by : (b : Bool) → ((cond b (AllDone, board) (by_event board event)).0 ≡ Done → ⊥) → (cond b (AllDone, board) (by_event board event)).1 ≡ board
    by true never = refl
    by false never = undone_event board event never

pub kept : Kept
kept board event = by (is_done board)
  where
    by : (b : Bool) → IsOfPlan board (cond b (AllDone, board) (by_event board event)).1
    by true = same board
    by false = kept_event board event
