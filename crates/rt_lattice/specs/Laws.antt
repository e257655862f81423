-- Laws of lattices.
use Rattle.std.specs.Prelude.{◌≡◌, ◌↔◌, ℕ, List}
use Rattle.rt_lattice.specs.Bounds.{IsAntisymmetric}
use Rattle.rt_lattice.specs.Faults.{IsLatticeIn}
use Rattle.rt_lattice.specs.Lattices.{NamedOrder, IsBelow, IsLatticeOf, size_of}
use Rattle.rt_lattice.specs.Standard.{standard_file}

-- the same names, and the same order of all numbers
pub record AreOne (first second : NamedOrder) : Type 0 where
  pub names : first.names ≡ second.names
  pub counts : first.order.count ≡ second.order.count
  pub below : (j k : ℕ) → IsBelow first j k ↔ IsBelow second j k

-- an order of as many numbers as there are names, in which no two are below each other
pub record IsPartial (lattice : NamedOrder) : Type 0 where
  pub counted : lattice.order.count ≡ size_of lattice
  pub antisymmetric : IsAntisymmetric (IsBelow lattice) (size_of lattice)

-- two lattices that one text says have one order
abbrev pub OneOfText : Type 0
OneOfText = (text : List ℕ) (first second : NamedOrder) → IsLatticeIn text first → IsLatticeIn text second → AreOne first second

-- so have two standard ones
abbrev pub OneStandard : Type 0
OneStandard = (first second : NamedOrder) → IsLatticeOf standard_file first → IsLatticeOf standard_file second → AreOne first second

-- the order of a lattice that a text says is partial
abbrev pub PartialOfText : Type 0
PartialOfText = (text : List ℕ) (lattice : NamedOrder) → IsLatticeIn text lattice → IsPartial lattice

-- so is the standard one
abbrev pub PartialStandard : Type 0
PartialStandard = (lattice : NamedOrder) → IsLatticeOf standard_file lattice → IsPartial lattice
