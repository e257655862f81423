-- Counts in binary digits, and the least count of a push through a pointer.
use Rattle.std.specs.Prelude.{ℕ, ◌+◌, ◌*◌, ◌≤◌, List, [], ◌∷◌, Bool, true, false}
use Rattle.rt_lines.specs.declared.label.Variance.{Variance}
use Rattle.rt_bridge.specs.Counted.{bit, differ, IsEven}

abbrev pub digit_of : Bool → ℕ
digit_of true = 1
digit_of false = 0

-- the number of binary digits, the lowest first
abbrev pub value_of : List Bool → ℕ
value_of [] = 0
value_of (b ∷ digits) = digit_of b + 2 * value_of digits

-- the least count between children behind pointer letters whose parents are so far apart: twice it and the right parent's bit are no less
-- than the parents' count and the left one's bit, and it is even exactly if the children's signs are equal
pub record IsLeastHalf (count : ℕ) (left right first second : Variance) (half : ℕ) : Type 0 where
  pub enough : count + bit left ≤ (half + half) + bit right
  pub parity : IsEven (half + differ first second)
  pub least : (other : ℕ) → count + bit left ≤ (other + other) + bit right → IsEven (other + differ first second) → half ≤ other
