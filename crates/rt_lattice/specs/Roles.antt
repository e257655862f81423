-- The types of the machine's values, and the numbers of their names.
use Rattle.std.specs.Prelude.{ℕ, List, [], ◌∷◌, codes}
use Rattle.rt_lattice.specs.declared.role.Role.{Role}
use Rattle.rt_lattice.specs.declared.role.Role.TheVariants.{Num32, Sint32, Uint32, Sint16, Uint16, Sint8, Uint8, Bool, Code}
use Rattle.rt_lattice.specs.declared.roles.Roles.{Roles}

-- the key of a role in a lattice file
abbrev pub role_key : Role → List ℕ
role_key Num32 = codes "num32"
role_key Sint32 = codes "sint32"
role_key Uint32 = codes "uint32"
role_key Sint16 = codes "sint16"
role_key Uint16 = codes "uint16"
role_key Sint8 = codes "sint8"
role_key Uint8 = codes "uint8"
role_key Bool = codes "bool"
role_key Code = codes "code"

-- all roles, in their order
abbrev pub all_roles : List Role
all_roles = Num32 ∷ Sint32 ∷ Uint32 ∷ Sint16 ∷ Uint16 ∷ Sint8 ∷ Uint8 ∷ Bool ∷ Code ∷ []

-- the number of a role's name
abbrev pub role_in : Roles → Role → ℕ
role_in roles Num32 = roles.num32
role_in roles Sint32 = roles.sint32
role_in roles Uint32 = roles.uint32
role_in roles Sint16 = roles.sint16
role_in roles Uint16 = roles.uint16
role_in roles Sint8 = roles.sint8
role_in roles Uint8 = roles.uint8
role_in roles Bool = roles.bool
role_in roles Code = roles.code
