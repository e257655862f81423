-- What is said of orders of constants.
use Rattle.std.specs.Prelude.{◌≡◌, ℕ, ◌*◌, ◌<◌, ◌⊎◌, ◌↔◌, List, Bool, length}
use Rattle.rt_lines.specs.declared.line.Direction.{Direction}
use Rattle.rt_lines.specs.declared.line.Direction.TheVariants.{Lower, Upper}
use Rattle.rt_lines.specs.Orders.{Below, IsAtOrBelow}

-- the order with these cells
abbrev pub order_of : ℕ → List Bool → Below
order_of count cells = record { count = count; cells = cells }

-- where the first number bounds a variable, so does the second
abbrev pub Admits : Below → Direction → ℕ → ℕ → Type 0
Admits order Lower a b = IsAtOrBelow order b a
Admits order Upper a b = IsAtOrBelow order a b

-- what is at or below a number is at or below all that the number is at or below
abbrev pub IsTransitive : Below → Type 0
IsTransitive order =
    (x y z : ℕ) → x < order.count → y < order.count → z < order.count → IsAtOrBelow order x y → IsAtOrBelow order y z →
    IsAtOrBelow order x z

-- a cell for each pair, and a transitive relation
pub record IsOrder (order : Below) : Type 0 where
  pub full : length order.cells ≡ order.count * order.count
  pub transitive : IsTransitive order

-- each number is at or below itself alone
pub record IsFlat (order : Below) (count : ℕ) : Type 0 where
  pub counted : order.count ≡ count
  pub alone : (x y : ℕ) → x < count → y < count → IsAtOrBelow order x y ↔ (x ≡ y)

-- a is put below b: besides the old pairs, what is at or below a is at or below all that b is at or below
pub record PutsBelow (old new : Below) (a b : ℕ) : Type 0 where
  pub counted : new.count ≡ old.count
  pub related : (x y : ℕ) → x < old.count → y < old.count → IsAtOrBelow new x y ↔
      (IsAtOrBelow old x y ⊎ (IsAtOrBelow old x a × IsAtOrBelow old b y))
