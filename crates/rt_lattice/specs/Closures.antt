-- The order that the pairs of a file give to its names.
use Rattle.std.specs.Prelude.{◌≡◌, ◌↔◌, ℕ, ◌<◌, Bool, false, not, if◌then◌else◌, Option, Some, None, option_map, unwrap_or, List, []}
use Rattle.std.specs.Prelude.{◌∷◌, length, find, Contains, IsSomeAnd}
use Rattle.std.specs.Str.{bytes_eq}
use Rattle.rt_lines.specs.Names.{HasName}
use Rattle.rt_lines.specs.Orders.{Below, IsAtOrBelow}
use Rattle.rt_lines.specs.OrderFacts.{PutsBelow}
use Rattle.rt_lattice.specs.declared.fault.LatFault.{LatFault}
use Rattle.rt_lattice.specs.declared.fault.LatFault.TheVariants.{Unknown, NoRole, Memory}
use Rattle.rt_lattice.specs.declared.file.Pair.{Pair}
use Rattle.rt_lattice.specs.declared.file.RoleName.{RoleName}
use Rattle.rt_lattice.specs.declared.file.File.{File}
use Rattle.rt_lattice.specs.declared.role.Role.{Role}
use Rattle.rt_lattice.specs.Roles.{role_key, all_roles}
use Rattle.rt_lattice.specs.Spelling.{has_name}

-- a pair of names, by their numbers
pub record IsPairOf (names : List (List ℕ)) (pairs : List Pair) (a b : ℕ) : Type 0 where
  pub pair : Pair
  pub given : Contains pairs pair
  pub lower : HasName names a pair.lower
  pub upper : HasName names b pair.upper

-- the reflexive and transitive closure of pairs of names, by their numbers
pub data IsUnder (names : List (List ℕ)) (pairs : List Pair) : ℕ → ℕ → Type 0 where
  itself : (a : ℕ) → IsUnder names pairs a a
  onwards : (a b c : ℕ) → IsPairOf names pairs a b → IsUnder names pairs b c → IsUnder names pairs a c

-- the order is the closure of the pairs
pub record Closes (names : List (List ℕ)) (pairs : List Pair) (order : Below) : Type 0 where
  pub counted : order.count ≡ length names
  pub same : (a b : ℕ) → a < length names → b < length names → IsAtOrBelow order a b ↔ IsUnder names pairs a b

-- a pair is put into an order
pub record AddsPair (names : List (List ℕ)) (pair : Pair) (old new : Below) : Type 0 where
  pub lower : ℕ
  pub upper : ℕ
  pub lower_named : HasName names lower pair.lower
  pub upper_named : HasName names upper pair.upper
  pub put : PutsBelow old new lower upper

-- the first name is at or below the second in a file, by their numbers
abbrev pub IsUnderIn : File → ℕ → ℕ → Type 0
IsUnderIn file = IsUnder file.names file.below

-- the names of pairs, in order
abbrev pub names_in : List Pair → List (List ℕ)
names_in [] = []
names_in (pair ∷ pairs) = pair.lower ∷ pair.upper ∷ names_in pairs

-- the first name of a list that isn't one of the names
abbrev pub first_unknown : List (List ℕ) → List (List ℕ) → Option (List ℕ)
first_unknown names list = find (λ name. not (has_name names name)) list

-- the first name in the pairs of a file that isn't one of its names
abbrev pub unknown_name : File → Option (List ℕ)
unknown_name file = first_unknown file.names (names_in file.below)

-- the fault is such a name
abbrev pub IsUnknownIn : List (List ℕ) → List (List ℕ) → LatFault → Type 0
IsUnknownIn names list (Unknown name) = first_unknown names list ≡ Some name
IsUnknownIn names list Memory = Unit {0}
IsUnknownIn names list _ = ⊥

-- the text for a role
abbrev pub role_text : List RoleName → Role → Option (List ℕ)
role_text [] role = None
role_text (entry ∷ entries) role = if bytes_eq entry.key (role_key role) then Some entry.name else role_text entries role

-- the text for a role is one of the file's names
abbrev pub has_role : File → Role → Bool
has_role file role = unwrap_or (option_map (has_name file.names) (role_text file.roles role)) false

-- the first role without a name
abbrev pub missing_role : File → Option Role
missing_role file = find (λ role. not (has_role file role)) all_roles

-- the number is that of the name for a role
abbrev pub IsRoleOf : File → Role → ℕ → Type 0
IsRoleOf file role number = IsSomeAnd (role_text file.roles role) (HasName file.names number)

-- the fault is the first role without a name
abbrev pub IsMissingIn : File → LatFault → Type 0
IsMissingIn file (NoRole role) = missing_role file ≡ Some role
IsMissingIn file _ = ⊥
