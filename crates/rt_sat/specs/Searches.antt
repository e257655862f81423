-- Ways along numbered edges, and what a search of them finds.
use Rattle.std.specs.Prelude.{◌≡◌, ℕ, ◌+◌, ◌<◌, ◌≤◌, ◌⊎◌, ◌++◌, ◌∷◌, List, [], Contains, Bool, not, Option, Some, None, length, slice_index_or}
use Rattle.std.specs.Map.{lookup}
use Rattle.rt_sat.specs.declared.state.State.{State}
use Rattle.rt_sat.specs.declared.state.Edge.{Edge}
use Rattle.rt_sat.specs.Reached.{key_of}
use Rattle.rt_sat.specs.contracts.state.StatePartialEq.TheImpl as the_state

abbrev pub state_eq : State → State → Bool
state_eq = (the_state.ghosts).eq

-- the same variable with the other sign
abbrev pub turned : State → State
turned s = record { variable = s.variable; contra = not s.contra }

-- a way along edges, and turns, with the sum of their counts
pub data Walk (edges : List Edge) : State → State → ℕ → Type 0 where
  stays : {x : State} → Walk edges x x 0
  turns : {x y : State} {k : ℕ} → Walk edges (turned x) y k → Walk edges x y (1 + k)
  steps : {y : State} {k : ℕ} (e : Edge) → Contains edges e → Walk edges e.to y k → Walk edges e.from y (e.count + k)

-- the count that is known of a state
abbrev pub IsKnown : List (State × ℕ) → State → ℕ → Type 0
IsKnown found s k = lookup (state_eq s) found ≡ Some k

-- a count of at most so much is known
abbrev pub IsWithin : List (State × ℕ) → State → ℕ → Type 0
IsWithin found s k = (j : ℕ) × IsKnown found s j × (j ≤ k)

-- the count is asked for, where counts up to a bound are, or all of them
abbrev pub Allows : Option ℕ → ℕ → Type 0
Allows None k = Unit {0}
Allows (Some most) k = k ≤ most

-- what is known are counts of ways from the start, which are asked for
abbrev pub AreNoted : Option ℕ → List Edge → State → List (State × ℕ) → Type 0
AreNoted most edges start found = (s : State) (k : ℕ) → IsKnown found s k → Walk edges start s k × Allows most k

-- the state's edges and its turn lead to what is known to be no farther, where it is asked for
pub record IsRelaxed (most : Option ℕ) (edges : List Edge) (found : List (State × ℕ)) (s : State) (k : ℕ) : Type 0 where
  pub turn : Allows most (1 + k) → IsWithin found (turned s) (1 + k)
  pub edge : (e : Edge) → Contains edges e → e.from ≡ s → Allows most (e.count + k) → IsWithin found e.to (e.count + k)

-- each known state is active, or relaxed
abbrev pub AreRelaxed : Option ℕ → List Edge → List (State × ℕ) → List State → Type 0
AreRelaxed most edges found active = (s : State) (k : ℕ) → IsKnown found s k → Contains active s ⊎ IsRelaxed most edges found s k

-- known counts only fall
abbrev pub AreFallen : List (State × ℕ) → List (State × ℕ) → Type 0
AreFallen old new = (s : State) (k : ℕ) → IsKnown old s k → IsWithin new s k

-- a count offered to a state: it is known to be no farther if that is asked for, others stay, and what changed is active
pub record IsOffered (most : Option ℕ) (old new : List (State × ℕ)) (old_active new_active : List State) (to : State)
    (count : ℕ) : Type 0 where
  pub within : Allows most count → IsWithin new to count
  pub fallen : AreFallen old new
  pub kept : (s : State) → Contains old_active s → Contains new_active s
  pub changed : (s : State) (k : ℕ) → IsKnown new s k → IsKnown old s k ⊎
      (Contains new_active s × (s ≡ to) × (k ≡ count) × Allows most count)

-- the indices at a state's key
abbrev pub leaving_of : List (List ℕ) → State → List ℕ
leaving_of out s = slice_index_or out (key_of s) []

-- for each state, by its key, the indices of the edges that leave it
pub record IsIndexed (edges : List Edge) (out : List (List ℕ)) : Type 0 where
  pub within : (s : State) (i : ℕ) → Contains (leaving_of out s) i → (i < length edges) ×
      ((e : Edge) → (slice_index_or edges i e).from ≡ s)
  pub all : (e : Edge) → Contains edges e → (i : ℕ) × Contains (leaving_of out e.from) i × (i < length edges) ×
      (slice_index_or edges i e ≡ e)

-- an index is put behind the others of a key
pub record IsEntered (key index : ℕ) (old new : List (List ℕ)) : Type 0 where
  pub here : slice_index_or new key [] ≡ slice_index_or old key [] ++ index ∷ []
  pub others : (n : ℕ) → (n ≡ key → ⊥) → slice_index_or new n [] ≡ slice_index_or old n []

-- each state that a way of a count that is asked for leads to from the start, with the least count
pub record IsSearch (most : Option ℕ) (edges : List Edge) (start : State) (found : List (State × ℕ)) : Type 0 where
  pub sound : (s : State) (k : ℕ) → IsKnown found s k → Walk edges start s k
  pub few : (s : State) (k : ℕ) → IsKnown found s k → Allows most k
  pub complete : (s : State) (k : ℕ) → Walk edges start s k → Allows most k → IsWithin found s k

-- a visit of a state at a count, so far: its turn, and edges that a test finds
pub record IsVisited (most : Option ℕ) (edges : List Edge) (old new : List (State × ℕ)) (old_active new_active : List State)
    (state : State) (count : ℕ) (Done : Edge → Type 0) : Type 0 where
  pub walks : (start : State) → AreNoted most edges start old → AreNoted most edges start new
  pub fallen : AreFallen old new
  pub kept : (s : State) → Contains old_active s → Contains new_active s
  pub changed : (s : State) (k : ℕ) → IsKnown new s k → IsKnown old s k ⊎ Contains new_active s
  pub turn : Allows most (1 + count) → IsWithin new (turned state) (1 + count)
  pub edge : (e : Edge) → Done e → e.from ≡ state → Allows most (e.count + count) → IsWithin new e.to (e.count + count)

-- the edge is among those of the first indices
abbrev pub IsPassed : List Edge → List ℕ → ℕ → Edge → Type 0
IsPassed edges items i e = (j : ℕ) × (j < i) × (slice_index_or edges (slice_index_or items j 0) e ≡ e)

-- a visit, begun with the turn, goes on along the edges of the first indices
pub record IsFollowed (most : Option ℕ) (edges : List Edge) (items : List ℕ) (before after : List (State × ℕ))
    (first next : List State) (state : State) (count i : ℕ) : Type 0 where
  pub follows : (old : List (State × ℕ)) (active : List State) → IsKnown old state count →
      IsVisited most edges old before active first state count (λ e. ⊥) →
      IsVisited most edges old after active next state count (IsPassed edges items i)
