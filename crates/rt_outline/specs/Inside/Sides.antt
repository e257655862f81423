-- What has a node below, or above, it and another one.
use Rattle.std.specs.Prelude.{◌≡◌, ℕ, Bool, false, List, Option, Some, Contains, slice_get}
use Rattle.rt_lines.specs.declared.label.Variance.{Variance}
use Rattle.rt_lines.specs.declared.label.Variance.TheVariants.{Co, Contra}
use Rattle.rt_outline.specs.Frames.{Origins}
use Rattle.rt_outline.specs.Turning.{HaveAbove, HaveBelow}
use Rattle.rt_outline.specs.declared.turning.Reach.{Reach}

-- no others
pub record IsReach (origins : Origins) (Edge : ℕ → ℕ → Type 0) (access : Bool) (v : ℕ) (reach : Reach) : Type 0 where
  pub low : (w : ℕ) → Contains reach.low w → HaveBelow origins Edge access v w
  pub high : (w : ℕ) → Contains reach.high w → HaveAbove Edge v w

-- all of those
pub record IsWhole (origins : Origins) (Edge : ℕ → ℕ → Type 0) (access : Bool) (v : ℕ) (reach : Reach) : Type 0 where
  pub low : (w : ℕ) → HaveBelow origins Edge access v w → Contains reach.low w
  pub high : (w : ℕ) → HaveAbove Edge v w → Contains reach.high w

-- all of those, for each node of which something is kept
abbrev pub AreWhole : Origins → (ℕ → ℕ → Type 0) → List (Option Reach) → Type 0
AreWhole origins Edge known = (p : ℕ) (reach : Reach) → slice_get known p ≡ Some (Some reach) → IsWhole origins Edge false p reach

-- where another parent is among those of what a node is made of, another node is among those of it, by the sign of a letter
pub record AreSplitIn (s : Variance) (own parents : Reach) (q w : ℕ) : Type 0 where
  pub co_below : s ≡ Co → Contains parents.low q → Contains own.low w
  pub co_above : s ≡ Co → Contains parents.high q → Contains own.high w
  pub contra_below : s ≡ Contra → Contains parents.high q → Contains own.low w
  pub contra_above : s ≡ Contra → Contains parents.low q → Contains own.high w
