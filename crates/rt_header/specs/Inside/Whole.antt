-- What has been declared on the way to a header: parts of the way.
use Rattle.std.specs.Prelude.{◌≡◌, ℕ, ◌<◌, ◌≤◌, ◌^◌, ◌↔◌, All, Contains, Option, List, [], length, map, get_or}
use Rattle.rt_cdecl.specs.declared.declarations.CType.{CType}
use Rattle.rt_cdecl.specs.declared.declarations.CType.TheVariants.{Unused}
use Rattle.rt_cdecl.specs.declared.declarations.CStruct.{CStruct}
use Rattle.rt_cdecl.specs.declared.declarations.CFunction.{CFunction}
use Rattle.rt_cdecl.specs.declared.declarations.Decls.{Decls}
use Rattle.rt_cdecl.specs.Types.{IsTypedef}
use Rattle.rt_cdecl.specs.Rows.{typedef_text}
use Rattle.rt_cdecl.specs.GoodDecls.{AreAscending, IsFunction, IsStruct, used_types}
use Rattle.rt_header.specs.Inside.Built.{AreBuilt, Forest, IsFunctionBuilt, IsMaking, Structs}
use Rattle.rt_header.specs.Inside.Made.{AreMade}
use Rattle.rt_header.specs.Met.{AreMet}

-- a function by the number of its tree
abbrev pub function_at : List CFunction → ℕ → CFunction
function_at functions i = get_or functions i (record { number = 0; args = []; out0 = Unused; out1 = Unused })

-- the functions of the first trees, and the structs that they lead to
pub record AreDeclared (forest : Forest) (structs : Structs) (numbers : List (Option ℕ)) (made : List CStruct)
    (functions : List CFunction) : Type 0 where
  pub making : IsMaking forest structs numbers
  pub are_made : AreMade forest structs made
  pub all : length made ≡ length structs
  pub built : (i : ℕ) → i < length functions → IsFunctionBuilt forest structs i (function_at functions i)
  pub good : All (IsFunction (length structs)) functions
  pub met : AreMet 0 made functions

-- those of all trees
pub record AreWhole (forest : Forest) (made : List CStruct) (functions : List CFunction) : Type 0 where
  pub structs : Structs
  pub built : AreBuilt forest structs made functions
  pub few : length made ≤ 2 ^ 32
  pub good : All (IsStruct (length made)) made
  pub good_functions : All (IsFunction (length made)) functions
  pub met : AreMet 0 made functions

-- declarations have the types that they use
pub record HasTypedefs (decls : Decls) : Type 0 where
  pub each : All IsTypedef decls.typedefs
  pub rise : AreAscending (map typedef_text decls.typedefs)
  pub exact : (t : CType) → Contains decls.typedefs t ↔ Contains (used_types decls.structs decls.functions) t
