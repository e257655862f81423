-- A lattice from an order and the bounds of all its pairs.
use Rattle.std.proofs.Common.{◌≡◌, ℕ, ◌<◌, ◌≤◌, Option, Some, None, List, length, inl, inr, IsSomeAnd, refl}
use Rattle.std.proofs.lemmas.Bool.{cases_eq}
use Rattle.rt_lines.specs.Names.{AreNames, HasName}
use Rattle.rt_lines.specs.Orders.{Below, IsAtOrBelow}
use Rattle.rt_lines.specs.OrderFacts.{IsOrder, IsTransitive}
use Rattle.rt_lattice.specs.declared.bounds.Bounds.{Bounds}
use Rattle.rt_lattice.specs.declared.fault.LatFault.{LatFault}
use Rattle.rt_lattice.specs.declared.fault.LatFault.TheVariants.{NotToml, Shape, Unknown, Cycle, NoTop, NoBottom, NoJoin, NoRole, TooMany, Memory}
use Rattle.rt_lattice.specs.declared.file.File.{File}
use Rattle.rt_lattice.specs.declared.role.Role.{Role}
use Rattle.rt_lattice.specs.declared.roles.Roles.{Roles}
use Rattle.rt_lattice.specs.Bounds.{IsAntisymmetric, HasNoCycle, HasJoins, HasMeets, IsLeastUpper, IsGreatestLower}
use Rattle.rt_lattice.specs.Closures.{IsUnderIn, Closes, unknown_name, IsMissingIn, IsRoleOf, role_text}
use Rattle.rt_lattice.specs.Faults.{IsOrderFault, IsFileFault, is_of_order, is_no_role}
use Rattle.rt_lattice.specs.Lattices.{NamedOrder, IsBelow, size_of, IsLatticeOf, AreBoundsOf, Keeps}
use Rattle.rt_lattice.specs.Grids.{cell_of}
use Rattle.rt_lattice.specs.Roles.{role_in}
use Rattle.rt_lattice.proofs.Filling.{filled_at}
use Rattle.rt_lattice.proofs.Sameness.{AreSame, same_top, same_bottom, same_joins, same_no_cycle, same_antisymmetric, same_fault}

pub antisymmetric_of : (R : ℕ → ℕ → Type 0) (n : ℕ) → HasNoCycle R n → IsAntisymmetric R n
antisymmetric_of R n none a b ha hb f g =
    elim (cases_eq a b) [
      | inl same ↦ same
      | inr other ↦ absurd (none a ha (record { partner = b; within = hb; other = other; above = f; below = g }))
    ]

pub joins_from : (R : ℕ → ℕ → Type 0) (n : ℕ) (bounds : Bounds) → AreBoundsOf R n bounds → HasJoins R n
joins_from R n bounds are a b ha hb = (_, filled_at (IsLeastUpper R n) n a b bounds.joins are.joins ha hb)

pub meets_from : (R : ℕ → ℕ → Type 0) (n : ℕ) (bounds : Bounds) → AreBoundsOf R n bounds → HasMeets R n
meets_from R n bounds are a b ha hb = (_, filled_at (IsGreatestLower R n) n a b bounds.meets are.meets ha hb)

-- the number for a role is that of a name
role_within : (text : Option (List ℕ)) (names : List (List ℕ)) (number : ℕ) → IsSomeAnd text (HasName names number) → number < length names
role_within None names number h = absurd h
role_within (Some name) names number h = h.within

pub same_in : (file : File) (order : Below) → Closes file.names file.below order → AreSame (IsAtOrBelow order) (IsUnderIn file) (length file.names)
same_in file order closes = record { same = closes.same }

-- what the type of a lattice keeps
pub keeps : (file : File) (order : Below) (roles : Roles) (bounds : Bounds) → length file.names ≤ 256 → AreNames file.names → Closes file.names file.below order → IsTransitive order
    → HasNoCycle (IsAtOrBelow order) (length file.names) → AreBoundsOf (IsAtOrBelow order) (length file.names) bounds → ((role : Role) → IsRoleOf file role (role_in roles role))
    → Keeps (record { names = file.names; order = order; roles = roles }) bounds
keeps file order roles bounds few named closes transitive none are told =
    record {
      is_lattice =
          record {
            named = named;
            few = few;
            counted = closes.counted;
            transitive = transitive;
            antisymmetric = antisymmetric_of (IsAtOrBelow order) (length file.names) none;
            top = (bounds.top, are.top);
            bottom = (bounds.bottom, are.bottom);
            joins = joins_from (IsAtOrBelow order) (length file.names) bounds are;
            meets = meets_from (IsAtOrBelow order) (length file.names) bounds are;
            roles = λ role. role_within (role_text file.roles role) file.names (role_in roles role) (told role);
          };
      are_bounds = are;
    }

-- the lattice is the one that the file says
pub lattice_says : (file : File) (order : Below) (roles : Roles) (bounds : Bounds) → Closes file.names file.below order → IsOrder order
    → HasNoCycle (IsAtOrBelow order) (length file.names) → AreBoundsOf (IsAtOrBelow order) (length file.names) bounds → ((role : Role) → IsRoleOf file role (role_in roles role))
    → IsLatticeOf file (record { names = file.names; order = order; roles = roles })
lattice_says file order roles bounds closes whole none are told =
    let R = IsAtOrBelow order in
    let n = length file.names in
    let same = same_in file order closes in
    record {
      are_lattice =
          record {
            antisymmetric = same_antisymmetric R (IsUnderIn file) n same (antisymmetric_of R n none);
            top = same_top R (IsUnderIn file) n same (bounds.top, are.top);
            bottom = same_bottom R (IsUnderIn file) n same (bounds.bottom, are.bottom);
            joins = same_joins R (IsUnderIn file) n same (joins_from R n bounds are);
            roles = λ role. (role_in roles role, told role);
          };
      named = refl;
      counted = closes.counted;
      whole = whole;
      ordered = closes.same;
      roles = told;
    }

-- a fault of the closure is one of the file
pub order_fault_in : (file : File) (order : Below) (fault : LatFault) → unknown_name file ≡ None → Closes file.names file.below order
    → IsOrderFault (IsAtOrBelow order) file.names fault → IsFileFault file fault
order_fault_in file order fault known closes h = is_of_order fault known (same_fault _ _ file.names fault (same_in file order closes) h)

-- a role without a name is a fault of the file
pub role_fault_in : (file : File) (order : Below) (bounds : Bounds) (fault : LatFault) → unknown_name file ≡ None → Closes file.names file.below order
    → HasNoCycle (IsAtOrBelow order) (length file.names) → AreBoundsOf (IsAtOrBelow order) (length file.names) bounds → IsMissingIn file fault → IsFileFault file fault
role_fault_in file order bounds (NoRole role) known closes none are h =
    let R = IsAtOrBelow order in
    let n = length file.names in
    let same = same_in file order closes in
    is_no_role role known
    (record {
      no_cycle = same_no_cycle R (IsUnderIn file) n same none;
      top = same_top R (IsUnderIn file) n same (bounds.top, are.top);
      bottom = same_bottom R (IsUnderIn file) n same (bounds.bottom, are.bottom);
      joins = same_joins R (IsUnderIn file) n same (joins_from R n bounds are);
    })
    h
role_fault_in file order bounds (Cycle name) known closes none are h = absurd h
role_fault_in file order bounds NoTop known closes none are h = absurd h
role_fault_in file order bounds NoBottom known closes none are h = absurd h
role_fault_in file order bounds (NoJoin first second) known closes none are h = absurd h
role_fault_in file order bounds NotToml known closes none are h = absurd h
role_fault_in file order bounds (Shape key) known closes none are h = absurd h
role_fault_in file order bounds (Unknown name) known closes none are h = absurd h
role_fault_in file order bounds TooMany known closes none are h = absurd h
role_fault_in file order bounds Memory known closes none are h = absurd h

-- the bounds that the type of a lattice keeps
pub kept_join : (lattice : NamedOrder) (bounds : Bounds) (a b : ℕ) → Keeps lattice bounds → a < size_of lattice → b < size_of lattice
    → IsLeastUpper (IsBelow lattice) (size_of lattice) a b (cell_of bounds.joins a b)
kept_join lattice bounds a b keeps ha hb = filled_at (IsLeastUpper (IsBelow lattice) (size_of lattice)) (size_of lattice) a b bounds.joins keeps.are_bounds.joins ha hb

pub kept_meet : (lattice : NamedOrder) (bounds : Bounds) (a b : ℕ) → Keeps lattice bounds → a < size_of lattice → b < size_of lattice
    → IsGreatestLower (IsBelow lattice) (size_of lattice) a b (cell_of bounds.meets a b)
kept_meet lattice bounds a b keeps ha hb = filled_at (IsGreatestLower (IsBelow lattice) (size_of lattice)) (size_of lattice) a b bounds.meets keeps.are_bounds.meets ha hb
