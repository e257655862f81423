-- The order in which four workers are driven through a plan, by a number.
use Rattle.std.specs.Prelude.{◌≡◌, ℕ, ◌+◌, ◌*◌, ◌/◌, ◌%◌, ◌^◌, true, false, not, Option, Some, None, is_none, List, [], ◌∷◌, ◌++◌, find}
use Rattle.rt_plan.specs.declared.event.State.TheVariants.{Held, Published}
use Rattle.rt_plan.specs.Plans.{Board, first_ready, held_by, is_done, with_state}

-- the state of the driver in the next turn
abbrev pub next_state : ℕ → ℕ
next_state state = (state * 1664525 + 1013904223) % 2 ^ 32

-- the worker whose turn it is
abbrev pub turn_of : ℕ → ℕ
turn_of state = state / 65536 % 4

-- the least worker that holds a group
abbrev pub first_holder : Board → Option ℕ
first_holder board = find (λ w. not (is_none (held_by board w))) (0 ∷ 1 ∷ 2 ∷ 3 ∷ [])

-- The claims, as worker and group, that are done from a state and a board on until all is published.
pub data Drives : ℕ → Board → List (ℕ × ℕ) → Type 0 where
  -- all is published
  ends : {state : ℕ} {board : Board} → is_done board ≡ true → Drives state board []
  -- the worker whose turn it is publishes what it holds
  publishes : {state g : ℕ} {board : Board} {claims : List (ℕ × ℕ)} → is_done board ≡ false
      → held_by board (turn_of (next_state state)) ≡ Some g
      → Drives (next_state state) (with_state board g Published) claims → Drives state board claims
  -- it holds none, and gets the least group that is ready
  takes : {state g : ℕ} {board : Board} {claims : List (ℕ × ℕ)} → is_done board ≡ false
      → held_by board (turn_of (next_state state)) ≡ None → first_ready board ≡ Some g
      → Drives (next_state state) (with_state board g (Held (turn_of (next_state state)))) claims
      → Drives state board ((turn_of (next_state state), g) ∷ claims)
  -- it holds none and no group is ready: the least worker that holds one publishes it
  helps : {state w g : ℕ} {board : Board} {claims : List (ℕ × ℕ)} → is_done board ≡ false
      → held_by board (turn_of (next_state state)) ≡ None → first_ready board ≡ None
      → first_holder board ≡ Some w → held_by board w ≡ Some g
      → Drives (next_state state) (with_state board g Published) claims → Drives state board claims

-- The claims so far are the first of those of the whole drive of a number.
pub record IsFrontOf (number : ℕ) (board : Board) (claims : List (ℕ × ℕ)) : Type 0 where
  pub rest : List (ℕ × ℕ)
  pub drives : Drives number board (claims ++ rest)
