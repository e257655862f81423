-- The lattice that is used where no file is given: the numbers and addresses of C.
use Rattle.std.specs.Prelude.{ℕ, List, [], ◌∷◌, codes}
use Rattle.rt_lattice.specs.declared.file.Pair.{Pair}
use Rattle.rt_lattice.specs.declared.file.RoleName.{RoleName}
use Rattle.rt_lattice.specs.declared.file.File.{File}

-- its names
abbrev pub standard_names : List (List ℕ)
standard_names =
    codes "any"
    ∷ codes "num32"
    ∷ codes "int32"
    ∷ codes "int16"
    ∷ codes "int8"
    ∷ codes "uint32"
    ∷ codes "uint16"
    ∷ codes "uint8"
    ∷ codes "bool"
    ∷ codes "code"
    ∷ codes "str"
    ∷ codes "none" ∷ []

abbrev pub pair : List ℕ → List ℕ → Pair
pair lower upper = record { lower = lower; upper = upper }

-- which of its names are below which
abbrev pub standard_below : List Pair
standard_below =
    pair (codes "num32") (codes "any")
    ∷ pair (codes "int32") (codes "num32")
    ∷ pair (codes "int16") (codes "int32")
    ∷ pair (codes "int8") (codes "int16")
    ∷ pair (codes "bool") (codes "int8")
    ∷ pair (codes "uint32") (codes "num32")
    ∷ pair (codes "uint16") (codes "uint32")
    ∷ pair (codes "uint8") (codes "uint16")
    ∷ pair (codes "bool") (codes "uint8")
    ∷ pair (codes "code") (codes "any")
    ∷ pair (codes "str") (codes "any")
    ∷ pair (codes "none") (codes "bool")
    ∷ pair (codes "none") (codes "code")
    ∷ pair (codes "none") (codes "str") ∷ []

abbrev pub role_name : List ℕ → List ℕ → RoleName
role_name key name = record { key = key; name = name }

-- its roles, by the bytes of their keys
abbrev pub standard_roles : List RoleName
standard_roles =
    role_name (codes "bool") (codes "bool")
    ∷ role_name (codes "code") (codes "code")
    ∷ role_name (codes "num32") (codes "num32")
    ∷ role_name (codes "sint16") (codes "int16")
    ∷ role_name (codes "sint32") (codes "int32")
    ∷ role_name (codes "sint8") (codes "int8")
    ∷ role_name (codes "uint16") (codes "uint16")
    ∷ role_name (codes "uint32") (codes "uint32")
    ∷ role_name (codes "uint8") (codes "uint8") ∷ []

abbrev pub standard_file : File
standard_file = record { names = standard_names; below = standard_below; roles = standard_roles }
