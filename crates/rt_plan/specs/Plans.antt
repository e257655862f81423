-- A work plan: groups, those that each one calls, and what one event of a worker does to them.
use Rattle.std.specs.Prelude.{ℕ, ◌<◌, ◌==◌, ◌&&◌, not, Bool, true, false, Option, Some, None, List, [], find, length, map, All, slice_index_or, slice_set, if◌then◌else◌}
use Rattle.std.specs.List.{list_any, list_all}
use Rattle.rt_base.specs.First.{entries}
use Rattle.rt_plan.specs.declared.event.Event.{Event}
use Rattle.rt_plan.specs.declared.event.Event.TheVariants.{Claim, Publish, Abandon}
use Rattle.rt_plan.specs.declared.event.Answer.{Answer}
use Rattle.rt_plan.specs.declared.event.Answer.TheVariants.{Done, Busy, NotReady, Idle, AllDone}
use Rattle.rt_plan.specs.declared.event.State.{State}
use Rattle.rt_plan.specs.declared.event.State.TheVariants.{Open, Held, Published}

-- how many workers there are; for each group the groups that it calls; and what each is: open, held by a worker, or published
pub record Board : Type 0 where
  pub workers : ℕ
  pub callees : List (List ℕ)
  pub states : List State

abbrev pub worker_of : Event → ℕ
worker_of (Claim w) = w
worker_of (Publish w) = w
worker_of (Abandon w) = w

abbrev pub is_open : State → Bool
is_open Open = true
is_open (Held w) = false
is_open Published = false

abbrev pub is_published : State → Bool
is_published Open = false
is_published (Held w) = false
is_published Published = true

abbrev pub is_held_by : ℕ → State → Bool
is_held_by w Open = false
is_held_by w (Held v) = v == w
is_held_by w Published = false

-- the numbers of the groups
abbrev pub groups_in : Board → List ℕ
groups_in board = entries (λ g. g) 0 (length board.states)

abbrev pub state_at : Board → ℕ → State
state_at board g = slice_index_or board.states g Open

abbrev pub callees_at : Board → ℕ → List ℕ
callees_at board g = slice_index_or board.callees g []

-- the group that a worker holds
abbrev pub held_by : Board → ℕ → Option ℕ
held_by board w = find (λ g. is_held_by w (state_at board g)) (groups_in board)

-- each group is published
abbrev pub is_done : Board → Bool
is_done board = list_all is_published board.states

abbrev pub is_out : Board → ℕ → Bool
is_out board g = is_published (state_at board g)

-- the least group that is open
abbrev pub first_open : Board → Option ℕ
first_open board = find (λ g. is_open (state_at board g)) (groups_in board)

-- the least group that is open and of which each callee is published
abbrev pub first_ready : Board → Option ℕ
first_ready board = find (λ g. is_open (state_at board g) && list_all (is_out board) (callees_at board g)) (groups_in board)

-- the least callee of a group that isn't published
abbrev pub first_missing : Board → ℕ → Option ℕ
first_missing board g = find (λ c. list_any (λ d. d == c) (callees_at board g) && not (is_out board c)) (groups_in board)

-- the board, of which a group is now this
abbrev pub with_state : Board → ℕ → State → Board
with_state board g state = record board { states = slice_set board.states g state }

-- what a claim waits for
abbrev pub waits_for : Option ℕ → Answer
waits_for None = Idle
waits_for (Some c) = NotReady c

-- a claim of a worker that holds none where this is the least open group, and this the least that is ready
abbrev pub claim_by : Board → ℕ → Option ℕ → Option ℕ → Answer × Board
claim_by board w None ready = (Idle, board)
claim_by board w (Some g) None = (waits_for (first_missing board g), board)
claim_by board w (Some g) (Some ready) = (Done, with_state board ready (Held w))

-- a claim, where the worker holds this
abbrev pub claim : Board → ℕ → Option ℕ → Answer × Board
claim board w (Some g) = (Busy g, board)
claim board w None = claim_by board w (first_open board) (first_ready board)

-- the group that a worker holds becomes this
abbrev pub leave : Board → State → Option ℕ → Answer × Board
leave board state None = (Idle, board)
leave board state (Some g) = (Done, with_state board g state)

abbrev pub by_event : Board → Event → Answer × Board
by_event board (Claim w) = claim board w (held_by board w)
by_event board (Publish w) = leave board Published (held_by board w)
by_event board (Abandon w) = leave board Open (held_by board w)

-- One event: its answer, and the board after it. Where all is published nothing is left to do.
abbrev pub applied : Board → Event → Answer × Board
applied board event = if is_done board then (AllDone, board) else by_event board event

-- the group that an event publishes, if it does
abbrev pub published_by : Board → Event → Option ℕ
published_by board (Publish w) = if is_done board then None else held_by board w
published_by board (Claim w) = None
published_by board (Abandon w) = None

-- each group is open
abbrev pub start : ℕ → List (List ℕ) → Board
start workers callees = record { workers = workers; callees = callees; states = map (λ group. Open) callees }

-- each group calls only groups of lower numbers
abbrev pub AreLower : List (List ℕ) → Type 0
AreLower callees = (g : ℕ) → All (λ c. c < g) (slice_index_or callees g [])
