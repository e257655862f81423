-- The first fault of a lattice file.
use Rattle.std.specs.Prelude.{◌≡◌, ℕ, ◌<◌, ◌≤◌, nat_lt, not, is_none, Option, Some, None, option_map, List, [], ◌∷◌, length, codes}
use Rattle.toml.specs.Data.{Members}
use Rattle.rt_base.specs.First.{fault_if, first_of}
use Rattle.rt_lines.specs.Names.{HasName}
use Rattle.rt_lattice.specs.declared.fault.LatFault.{LatFault}
use Rattle.rt_lattice.specs.declared.fault.LatFault.TheVariants.{NotToml, Shape, Unknown, Cycle, NoTop, NoBottom, NoJoin, NoRole}
use Rattle.rt_lattice.specs.declared.fault.LatFault.TheVariants.{TooMany, Memory}
use Rattle.rt_lattice.specs.declared.file.File.{File}
use Rattle.rt_lattice.specs.declared.role.Role.{Role}
use Rattle.rt_lattice.specs.Bounds.{HasNoCycle, HasTop, HasBottom, HasJoins, IsFirstOnCycle, IsFirstWithoutJoin}
use Rattle.rt_lattice.specs.Closures.{IsUnderIn, unknown_name, missing_role}
use Rattle.rt_lattice.specs.Files.{IsTable, SaysFile, names_at, below_at, roles_at, other_key}
use Rattle.rt_lattice.specs.Lattices.{NamedOrder, IsLatticeOf}
use Rattle.rt_lattice.specs.Spelling.{are_names}

-- an error is the fault; memory may always run out
abbrev pub IsFaultOf : Option LatFault → LatFault → Type 0
IsFaultOf fault Memory = Unit {0}
IsFaultOf fault told = fault ≡ Some told

-- what stands at `names` is an array of strings, at most 256 of them, spelled as names and distinct
abbrev pub names_fault : Option (List (List ℕ)) → Option LatFault
names_fault None = Some (Shape (codes "names"))
names_fault (Some names) = first_of (
    fault_if (nat_lt 256 (length names)) TooMany
    ∷ fault_if (not (are_names names)) (Shape (codes "names"))
    ∷ [])

-- the first fault of the form of a table
abbrev pub form_fault : Members → Option LatFault
form_fault table = first_of (
    names_fault (names_at table)
    ∷ fault_if (is_none (below_at table)) (Shape (codes "below"))
    ∷ fault_if (is_none (roles_at table)) (Shape (codes "roles"))
    ∷ option_map Shape (other_key table)
    ∷ [])

-- a name has a partner, and no earlier one
pub record IsOnCycle (R : ℕ → ℕ → Type 0) (names : List (List ℕ)) (name : List ℕ) : Type 0 where
  pub number : ℕ
  pub named : HasName names number name
  pub cycle : IsFirstOnCycle R (length names) number

-- two names have no least upper bound, and each pair before them has one
pub record HaveNoJoin (R : ℕ → ℕ → Type 0) (names : List (List ℕ)) (first second : List ℕ) : Type 0 where
  pub a : ℕ
  pub b : ℕ
  pub first_named : HasName names a first
  pub second_named : HasName names b second
  pub pair : IsFirstWithoutJoin R (length names) a b

-- the first fault of a relation on names: each one only where there is none of those before it
pub data IsOrderFault (R : ℕ → ℕ → Type 0) (names : List (List ℕ)) : LatFault → Type 0 where
  is_cycle : (name : List ℕ) → IsOnCycle R names name → IsOrderFault R names (Cycle name)
  is_no_top : HasNoCycle R (length names) → (HasTop R (length names) → ⊥) → IsOrderFault R names NoTop
  is_no_bottom : HasNoCycle R (length names) → HasTop R (length names) → (HasBottom R (length names) → ⊥) →
      IsOrderFault R names NoBottom
  is_no_join : (first second : List ℕ) → HasNoCycle R (length names) → HasTop R (length names) → HasBottom R (length names) →
      HaveNoJoin R names first second
      → IsOrderFault R names (NoJoin first second)

-- a relation on names has no such fault
pub record HasNoOrderFault (R : ℕ → ℕ → Type 0) (n : ℕ) : Type 0 where
  pub no_cycle : HasNoCycle R n
  pub top : HasTop R n
  pub bottom : HasBottom R n
  pub joins : HasJoins R n

-- the first fault of a file whose form is right: a name that isn't known, then a fault of the names' order, then a role
-- without a name
pub data IsFileFault (file : File) : LatFault → Type 0 where
  is_unknown : (name : List ℕ) → unknown_name file ≡ Some name → IsFileFault file (Unknown name)
  is_of_order : (fault : LatFault) → unknown_name file ≡ None → IsOrderFault (IsUnderIn file) file.names fault →
      IsFileFault file fault
  is_no_role : (role : Role) → unknown_name file ≡ None → HasNoOrderFault (IsUnderIn file) (length file.names) →
      missing_role file ≡ Some role
      → IsFileFault file (NoRole role)

-- a fault of the least upper bounds in a relation on names
abbrev pub IsJoinFault : (ℕ → ℕ → Type 0) → List (List ℕ) → LatFault → Type 0
IsJoinFault R names (NoJoin first second) = HaveNoJoin R names first second
IsJoinFault R names Memory = Unit {0}
IsJoinFault R names _ = ⊥

-- the first fault of a text
pub data IsFirstFault (text : List ℕ) : LatFault → Type 0 where
  is_too_long : 65536 < length text → IsFirstFault text TooMany
  is_not_toml : length text ≤ 65536 → ((table : Members) → IsTable text table → ⊥) → IsFirstFault text NotToml
  is_of_form : (table : Members) (fault : LatFault) → IsTable text table → form_fault table ≡ Some fault → IsFirstFault text fault
  is_of_file : (table : Members) (file : File) (fault : LatFault) → IsTable text table → form_fault table ≡ None →
      SaysFile table file → IsFileFault file fault → IsFirstFault text fault

-- the lattice that a text says, which has no fault
pub record IsLatticeIn (text : List ℕ) (lattice : NamedOrder) : Type 0 where
  pub table : Members
  pub file : File
  pub is_table : IsTable text table
  pub form : form_fault table ≡ None
  pub says : SaysFile table file
  pub known : unknown_name file ≡ None
  pub says_lattice : IsLatticeOf file lattice
