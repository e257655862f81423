-- One turn of the driver of a plan that isn't at its end.
use Rattle.std.specs.Prelude.{◌≡◌, ℕ, Some, None, List, [], ◌∷◌}
use Rattle.std.specs.List.{count_by}
use Rattle.rt_plan.specs.declared.event.State.TheVariants.{Held, Published}
use Rattle.rt_plan.specs.Plans.{Board, first_ready, held_by, is_published, with_state}
use Rattle.rt_plan.specs.Driver.{first_holder}

-- What the worker whose turn it is makes of a board, with the claims that were done and how many groups were published.
pub data IsTurn (worker : ℕ) (old : Board) : List (ℕ × ℕ) → ℕ → Board → Type 0 where
  -- the worker publishes what it holds
  publishes : {g : ℕ} → held_by old worker ≡ Some g → IsTurn worker old [] 1 (with_state old g Published)
  -- it holds none, and gets the least group that is ready
  takes : {g : ℕ} → held_by old worker ≡ None → first_ready old ≡ Some g
      → IsTurn worker old ((worker, g) ∷ []) 0 (with_state old g (Held worker))
  -- it holds none and no group is ready: the least worker that holds one publishes it
  helps : {w g : ℕ} → held_by old worker ≡ None → first_ready old ≡ None → first_holder old ≡ Some w → held_by old w ≡ Some g
      → IsTurn worker old [] 1 (with_state old g Published)

-- how many groups are published
abbrev pub published_count : Board → ℕ
published_count board = count_by is_published board.states
