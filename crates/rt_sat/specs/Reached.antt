-- Counts of states with their places.
use Rattle.std.specs.Prelude.{◌≡◌, ℕ, ◌+◌, ◌*◌, ◌<◌, List, length, slice_index_or}
use Rattle.rt_sat.specs.declared.state.State.{State}
use Rattle.rt_sat.specs.Counts.{digit_of}

-- the key of a state
abbrev pub key_of : State → ℕ
key_of s = 2 * s.variable + digit_of s.contra

-- by the key of each state that has a count stands the place of that
abbrev pub ArePlaces : List ℕ → List (State × ℕ) → Type 0
ArePlaces places counts = (i : ℕ) → i < length counts → (e : State × ℕ) →
    slice_index_or places (key_of (slice_index_or counts i e).0) 0 ≡ i
