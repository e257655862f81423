-- Which nodes have a node below both, and which one above both, where counts matter.
use Rattle.std.specs.Prelude.{◌≡◌, ℕ, ◌<◌, List, Bool, true, false, Option, Some, None, slice_index_or}
use Rattle.rt_lines.specs.declared.label.Label.{Label}
use Rattle.rt_lines.specs.declared.label.Variance.{Variance}
use Rattle.rt_lines.specs.declared.label.Variance.TheVariants.{Co, Contra}
use Rattle.rt_lines.specs.Words.{label_variance}
use Rattle.rt_bridge.specs.Counted.{IsPointer}
use Rattle.rt_components.specs.Groups.{Reaches}
use Rattle.rt_outline.specs.Frames.{Origins, IsMade}
use Rattle.rt_outline.specs.Hubs.{HasAccess}

-- a node from which arcs lead to both, with a load and a store if it needs them
abbrev pub HaveBelow : Origins → (ℕ → ℕ → Type 0) → Bool → ℕ → ℕ → Type 0
HaveBelow origins Edge access v w = (h : ℕ) × (access ≡ true → HasAccess origins h) × Reaches Edge h v × Reaches Edge h w

-- a node to which arcs lead from both
abbrev pub HaveAbove : (ℕ → ℕ → Type 0) → ℕ → ℕ → Type 0
HaveAbove Edge v w = (h : ℕ) × Reaches Edge v h × Reaches Edge w h

-- the one and the other
pub record HaveBoth (origins : Origins) (Edge : ℕ → ℕ → Type 0) (access : Bool) (v w : ℕ) : Type 0 where
  pub below : HaveBelow origins Edge access v w
  pub above : HaveAbove Edge v w

-- where two nodes have one below or above both, so have those behind a letter of them, by its sign
pub record AreSplit (origins : Origins) (Edge : ℕ → ℕ → Type 0) (access : Bool) (s : Variance) (p q v w : ℕ) : Type 0 where
  pub co_below : s ≡ Co → HaveBelow origins Edge false p q → HaveBelow origins Edge access v w
  pub co_above : s ≡ Co → HaveAbove Edge p q → HaveAbove Edge v w
  pub contra_below : s ≡ Contra → HaveAbove Edge p q → HaveBelow origins Edge access v w
  pub contra_above : s ≡ Contra → HaveBelow origins Edge false p q → HaveAbove Edge v w

abbrev pub flag_at : List Bool → ℕ → Bool
flag_at flags n = slice_index_or flags n false

abbrev pub class_at : List (Option ℕ) → ℕ → Option ℕ
class_at classes n = slice_index_or classes n None

-- the number's class is marked
abbrev pub IsMarked : List (Option ℕ) → List Bool → ℕ → Type 0
IsMarked classes marks v = (c : ℕ) × (class_at classes v ≡ Some c) × (flag_at marks c ≡ true)

-- nodes behind letters of two nodes of one class: behind one letter they have what these have, and both behind loads and stores of what can
-- be read and written through
pub record AreTold (origins : Origins) (Edge : ℕ → ℕ → Type 0) (flips : List Bool) (p q : ℕ) (l m : Label) (v w : ℕ) : Type 0 where
  pub same : l ≡ m → AreSplit origins Edge (flag_at flips v) (label_variance l) p q v w
  pub pointers : IsPointer l → IsPointer m → flag_at flips p ≡ true → HaveBoth origins Edge (flag_at flips v) v w

-- of a number with those before another one
abbrev pub AreToldTo : Origins → (ℕ → ℕ → Type 0) → List (Option ℕ) → List Bool → ℕ → ℕ → ℕ → Label → ℕ → Type 0
AreToldTo origins Edge classes flips v p d l count = (w q : ℕ) (m : Label) → w < count → IsMade origins w q m →
    class_at classes q ≡ Some d → AreTold origins Edge flips p q l m v w

-- of a number with all others
abbrev pub IsToldAt : Origins → (ℕ → ℕ → Type 0) → List (Option ℕ) → List Bool → List Bool → ℕ → ℕ → Type 0
IsToldAt origins Edge classes flips marks count v = (p d : ℕ) (l : Label) → IsMade origins v p l → IsMarked classes marks v →
    class_at classes p ≡ Some d → AreToldTo origins Edge classes flips v p d l count

-- a number's mark, where it can be read and written through, and from what is behind a letter
pub record IsMarkedAt (origins : Origins) (classes : List (Option ℕ)) (flips marks : List Bool) (v : ℕ) : Type 0 where
  pub through : flag_at flips v ≡ true → IsMarked classes marks v
  pub letters : (p : ℕ) (l : Label) → IsMade origins v p l → IsMarked classes marks v → IsMarked classes marks p

-- of so many numbers
pub record AreTurning (origins : Origins) (Edge : ℕ → ℕ → Type 0) (classes : List (Option ℕ)) (flips marks : List Bool) (count : ℕ) : Type 0 where
  pub marked : (v : ℕ) → v < count → IsMarkedAt origins classes flips marks v
  pub told : (v : ℕ) → v < count → IsToldAt origins Edge classes flips marks count v
