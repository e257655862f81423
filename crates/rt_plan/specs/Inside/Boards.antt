-- How a board is kept.
use Rattle.std.specs.Prelude.{◌≡◌, ◌↔◌, ℕ, ◌<◌, ◌^◌, ◌==◌, ◌&&◌, not, Bool, false, Option, Some, None, List, [], length, map, slice_index_or, if◌then◌else◌}
use Rattle.std.specs.List.{count_by}
use Rattle.rt_plan.specs.declared.event.State.{State}
use Rattle.rt_plan.specs.declared.event.State.TheVariants.{Open, Held}
use Rattle.rt_plan.specs.Plans.{AreLower, Board, callees_at, is_open, is_out, is_published, state_at}

-- how often a number stands in a list
abbrev pub times : ℕ → List ℕ → ℕ
times g list = count_by (λ c. c == g) list

-- who calls each group, as often as it does
pub record AreCallers (callees callers : List (List ℕ)) : Type 0 where
  pub lower : AreLower callees
  pub numbered : length callees < 2 ^ 32
  pub each : length callers ≡ length callees
  pub called : (g c : ℕ) → times g (slice_index_or callers c []) ≡ times c (slice_index_or callees g [])

-- which groups are ready, where this is what they are and how many callees each of them waits for
pub record AreReady (states : List State) (left : List ℕ) (ready : List Bool) : Type 0 where
  pub each : length ready ≡ length left
  pub readies : (g : ℕ) → g < length left → slice_index_or ready g false ≡ (is_open (slice_index_or states g Open) && (slice_index_or left g 0 == 0))

-- the same, where each is open
pub record AreReadyAt (left : List ℕ) (ready : List Bool) : Type 0 where
  pub each : length ready ≡ length left
  pub readies : (g : ℕ) → g < length left → slice_index_or ready g false ≡ (slice_index_or left g 0 == 0)

-- how many callees of a group aren't published
abbrev pub left_of : Board → ℕ → ℕ
left_of board g = count_by (λ c. not (is_out board c)) (callees_at board g)

-- a group that isn't published
abbrev pub waiting : Board → ℕ → Option ℕ
waiting board c = if is_out board c then None else Some c

-- what is kept beside the states: how many callees of each group aren't published, which groups are open and which of these are ready,
-- which group each worker holds, and how many groups aren't published
pub record IsKept (board : Board) (left : List ℕ) (opened ready : List Bool) (held : List (Option ℕ)) (unpublished : ℕ) : Type 0 where
  pub numbered : length board.states < 2 ^ 32
  pub each_called : length board.callees ≡ length board.states
  pub each_left : length left ≡ length board.states
  pub waits : (g : ℕ) → slice_index_or left g 0 ≡ left_of board g
  pub opens : opened ≡ map is_open board.states
  pub readies : AreReady board.states left ready
  pub workers : board.workers ≡ length held
  pub holds : (w g : ℕ) → (slice_index_or held w None ≡ Some g) ↔ (state_at board g ≡ Held w)
  pub counted : unpublished ≡ count_by (λ s. not (is_published s)) board.states
