-- Lattices of names.
use Rattle.std.specs.Prelude.{◌≡◌, ◌↔◌, ℕ, ◌<◌, ◌≤◌, List, length}
use Rattle.rt_lines.specs.Names.{AreNames}
use Rattle.rt_lines.specs.Orders.{Below, IsAtOrBelow}
use Rattle.rt_lines.specs.OrderFacts.{IsOrder, IsTransitive}
use Rattle.rt_lattice.specs.declared.file.File.{File}
use Rattle.rt_lattice.specs.declared.bounds.Bounds.{Bounds}
use Rattle.rt_lattice.specs.declared.role.Role.{Role}
use Rattle.rt_lattice.specs.declared.roles.Roles.{Roles}
use Rattle.rt_lattice.specs.Bounds.{IsTop, IsBottom, IsLeastUpper, IsGreatestLower, IsAntisymmetric, HasTop, HasBottom, HasJoins, HasMeets}
use Rattle.rt_lattice.specs.Closures.{IsUnderIn, IsRoleOf}
use Rattle.rt_lattice.specs.Grids.{IsFilledTo}
use Rattle.rt_lattice.specs.Roles.{role_in}

-- names, an order of their numbers, and the numbers of the roles' names
pub record NamedOrder : Type 0 where
  pub names : List (List ℕ)
  pub order : Below
  pub roles : Roles

abbrev pub size_of : NamedOrder → ℕ
size_of lattice = length lattice.names

-- the first name is at or below the second, by their numbers
abbrev pub IsBelow : NamedOrder → ℕ → ℕ → Type 0
IsBelow lattice = IsAtOrBelow lattice.order

-- a partial order with a top, a bottom, a least upper and a greatest lower bound for each pair, and a name for each role
pub record IsLattice (lattice : NamedOrder) : Type 0 where
  pub named : AreNames lattice.names
  pub few : size_of lattice ≤ 256
  pub counted : lattice.order.count ≡ size_of lattice
  pub transitive : IsTransitive lattice.order
  pub antisymmetric : IsAntisymmetric (IsBelow lattice) (size_of lattice)
  pub top : HasTop (IsBelow lattice) (size_of lattice)
  pub bottom : HasBottom (IsBelow lattice) (size_of lattice)
  pub joins : HasJoins (IsBelow lattice) (size_of lattice)
  pub meets : HasMeets (IsBelow lattice) (size_of lattice)
  pub roles : (role : Role) → role_in lattice.roles role < size_of lattice

-- the names of a file are a lattice
pub record AreLattice (file : File) : Type 0 where
  pub antisymmetric : IsAntisymmetric (IsUnderIn file) (length file.names)
  pub top : HasTop (IsUnderIn file) (length file.names)
  pub bottom : HasBottom (IsUnderIn file) (length file.names)
  pub joins : HasJoins (IsUnderIn file) (length file.names)
  pub roles : (role : Role) → (number : ℕ) × IsRoleOf file role number

-- The lattice that a file says: its order has as many numbers as there are names, a cell for each pair of them and no more, and is
-- the closure of the file's pairs.
pub record IsLatticeOf (file : File) (lattice : NamedOrder) : Type 0 where
  pub are_lattice : AreLattice file
  pub named : lattice.names ≡ file.names
  pub counted : lattice.order.count ≡ length file.names
  pub whole : IsOrder lattice.order
  pub ordered : (a b : ℕ) → a < length file.names → b < length file.names → IsBelow lattice a b ↔ IsUnderIn file a b
  pub roles : (role : Role) → IsRoleOf file role (role_in lattice.roles role)

-- the bounds of all pairs
pub record AreBoundsOf (R : ℕ → ℕ → Type 0) (n : ℕ) (bounds : Bounds) : Type 0 where
  pub top : IsTop R n bounds.top
  pub bottom : IsBottom R n bounds.bottom
  pub joins : IsFilledTo (IsLeastUpper R n) n n 0 bounds.joins
  pub meets : IsFilledTo (IsGreatestLower R n) n n 0 bounds.meets

-- what the type of a lattice keeps
pub record Keeps (lattice : NamedOrder) (bounds : Bounds) : Type 0 where
  pub is_lattice : IsLattice lattice
  pub are_bounds : AreBoundsOf (IsBelow lattice) (size_of lattice) bounds
