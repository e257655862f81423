-- Searches that end at the nearest nodes behind a letter.
use Rattle.std.specs.Prelude.{◌≡◌, ℕ, ◌⊎◌, List, [], Bool, cond, nat_eq, Contains, Option, Some, None, true, slice_index_or}
use Rattle.rt_lines.specs.declared.label.Label.{Label}
use Rattle.rt_lines.specs.declared.label.Variance.{Variance}
use Rattle.rt_lines.specs.declared.label.Variance.TheVariants.{Co, Contra}
use Rattle.rt_lines.specs.Words.{label_variance}
use Rattle.rt_components.specs.Groups.{Reaches}
use Rattle.rt_outline.specs.declared.arc.Arc.{Arc}
use Rattle.rt_outline.specs.Arcs.{Leads}
use Rattle.rt_outline.specs.Frames.{Origins, IsMade, step_of}

-- what a search from a node for a letter ends at: what is behind that letter of another node
abbrev pub end_of : List ((ℕ × Label) × ℕ) → ℕ → Label → ℕ → Option ℕ
end_of steps p l q = cond (nat_eq q p) None (step_of steps q l)

-- the relation, or the other way, by a sign
abbrev pub toward : Variance → (ℕ → ℕ → Type 0) → ℕ → ℕ → Type 0
toward Co Edge v w = Edge v w
toward Contra Edge v w = Edge w v

-- what is found from a node: where a search doesn't end it goes on, and where it ends something holds of the end
pub record IsSwept (Edge : ℕ → ℕ → Type 0) (end : ℕ → Option ℕ) (P : ℕ → Type 0) (p : ℕ) (found : List ℕ)
    : Type 0 where
  pub start : Contains found p
  pub onward : (q w : ℕ) → Contains found q → end q ≡ None → Edge q w → Contains found w
  pub ended : (q w : ℕ) → Contains found q → end q ≡ Some w → P w

-- the number is behind the letter of what is reached from a node
abbrev pub IsEnd : (ℕ → ℕ → Type 0) → List ((ℕ × Label) × ℕ) → ℕ → Label → ℕ → Type 0
IsEnd Edge steps p l w = (q : ℕ) × Reaches Edge p q × (step_of steps q l ≡ Some w)

-- ways of pushed arcs lead from a node to all ends of a search from what it is made of
abbrev pub IsDoneAt : Origins → List ((ℕ × Label) × ℕ) → List (List Arc) → List Bool → ℕ → Type 0
IsDoneAt origins steps arcs stands v = (p : ℕ) (l : Label) → IsMade origins v p l → (found : List ℕ) ×
    IsSwept (toward (label_variance l) (Leads arcs stands true)) (end_of steps p l) (λ w. Reaches (Leads arcs [] true) v w) p found

-- each of the numbers is one of the others, or reached from one
abbrev pub AreReached : (ℕ → ℕ → Type 0) → List ℕ → List ℕ → Type 0
AreReached Edge old new = (w : ℕ) → Contains new w → (v : ℕ) × Contains old v × Reaches Edge v w

-- arcs, or the same the other way, by a sign
abbrev pub side_of : Variance → List (List Arc) → List (List Arc) → List (List Arc)
side_of Co arcs back = arcs
side_of Contra arcs back = back

-- ways of pushed arcs lead from each node to what is noted of it
abbrev pub AreFollowed : List (List ℕ) → List (List Arc) → Type 0
AreFollowed reached arcs = (v w : ℕ) → Contains (slice_index_or reached v []) w → Reaches (Leads arcs [] true) v w

-- of one node those numbers are noted, of each other one what was noted
abbrev pub IsNotedFrom : ℕ → List ℕ → List (List ℕ) → List (List ℕ) → Type 0
IsNotedFrom node numbers old new = (v : ℕ) → (slice_index_or new v [] ≡ slice_index_or old v []) ⊎
    ((v ≡ node) × (slice_index_or new v [] ≡ numbers))
