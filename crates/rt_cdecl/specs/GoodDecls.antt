-- Well formed declarations.
use Rattle.std.specs.Prelude.{◌+◌, ◌≡◌, ℕ, ◌-◌, ◌*◌, ◌<◌, ◌≤◌, ◌^◌, ◌↔◌, nat_lt, if◌then◌else◌}
use Rattle.std.specs.Prelude.{List, [], ◌∷◌, ◌++◌, All, Contains, map, length}
use Rattle.std.specs.Ordering.{nat_cmp}
use Rattle.std.specs.Cmp.Lexicographic.{slice_cmp}
use Rattle.std.specs.declared.cmp.Ordering.TheVariants.{Less}
use Rattle.std.specs.List.{flat_map}
use Rattle.std.specs.List.Sorted.{IsStrictlyIncreasing}
use Rattle.rt_base.specs.First.{entries}
use Rattle.rt_lines.specs.declared.label.Loc.{Loc}
use Rattle.rt_lines.specs.declared.label.Loc.TheVariants.{Arg, Stack}
use Rattle.rt_texts.specs.Goods.{IsNumber}
use Rattle.rt_cdecl.specs.declared.declarations.CType.{CType}
use Rattle.rt_cdecl.specs.declared.declarations.CType.TheVariants.{Unused, Scalar, Pointer}
use Rattle.rt_cdecl.specs.declared.declarations.CField.{CField}
use Rattle.rt_cdecl.specs.declared.declarations.CStruct.{CStruct}
use Rattle.rt_cdecl.specs.declared.declarations.CFunction.{CFunction}
use Rattle.rt_cdecl.specs.declared.declarations.Decls.{Decls}
use Rattle.rt_cdecl.specs.Types.{end_of, IsPresent, IsTypedef, IsWide, IsField}
use Rattle.rt_cdecl.specs.Rows.{typedef_text}

-- each list of bytes comes after the one before it in the order of bytes
abbrev pub AreAscending : List (List ℕ) → Type 0
AreAscending [] = Unit {0}
AreAscending (text ∷ []) = Unit {0}
AreAscending (text ∷ next ∷ texts) = (slice_cmp nat_cmp text next ≡ Less) × AreAscending (next ∷ texts)

-- the struct that a pointer leads to is one of so many
abbrev pub LeadsBelow : ℕ → CType → Type 0
LeadsBelow count Unused = Unit {0}
LeadsBelow count (Scalar name bits) = Unit {0}
LeadsBelow count (Pointer n) = n < count

-- each field begins at the end of the one before it, or later
abbrev pub FitFrom : ℕ → List CField → Type 0
FitFrom from [] = Unit {0}
FitFrom from (field ∷ fields) = (from ≤ field.offset) × FitFrom (end_of field) fields

-- a struct of such fields, among so many structs
pub record IsStruct (count : ℕ) (struct : CStruct) : Type 0 where
  pub fields : All IsField struct.fields
  pub lead : All (λ (f : CField). LeadsBelow count f.kind) struct.fields
  pub fit : FitFrom 0 struct.fields

-- the place of the argument of this index: the registers, then the words of the stack
abbrev pub place_of : ℕ → Loc
place_of i = if nat_lt i 8 then Arg i else Stack (4 * (i - 8))

-- arguments stand at the places from an index on
abbrev pub ArePlaced : ℕ → List (Loc × CType) → Type 0
ArePlaced i [] = Unit {0}
ArePlaced i (arg ∷ args) = (arg.0 ≡ place_of i) × ArePlaced (i + 1) args

-- the last type is that of something, if there is any
abbrev pub IsLastPresent : List CType → Type 0
IsLastPresent [] = Unit {0}
IsLastPresent (t ∷ []) = IsPresent t
IsLastPresent (t ∷ next ∷ ts) = IsLastPresent (next ∷ ts)

-- the types of arguments
abbrev pub arg_types : List (Loc × CType) → List CType
arg_types args = map (λ (arg : Loc × CType). arg.1) args

-- an argument has the type of one
abbrev pub IsArgument : Loc × CType → Type 0
IsArgument arg = IsWide arg.1

-- Arguments stand at the first places in their order, and the last of them is used. There are at most 8 registers and 16,384 words.
pub record AreArgs (args : List (Loc × CType)) : Type 0 where
  pub places : ArePlaced 0 args
  pub few : length args ≤ 16392
  pub types : All IsArgument args
  pub used : IsLastPresent (arg_types args)

-- a function of such arguments and results, among so many structs
pub record IsFunction (count : ℕ) (function : CFunction) : Type 0 where
  pub number : IsNumber function.number
  pub args : AreArgs function.args
  pub out0 : IsWide function.out0
  pub out1 : IsWide function.out1
  pub lead : All (LeadsBelow count) (function.out0 ∷ function.out1 ∷ arg_types function.args)

-- a type that has a line of its own, as a list
abbrev pub named_types : CType → List CType
named_types Unused = Unused ∷ []
named_types (Scalar name bits) = Scalar name bits ∷ []
named_types (Pointer n) = []

-- those that a struct uses
abbrev pub struct_types : CStruct → List CType
struct_types struct = flat_map (λ (f : CField). named_types f.kind) struct.fields

-- those that results use: an absent one is written only beside one in a1
abbrev pub result_types : CType → CType → List CType
result_types out0 (Scalar name bits) = named_types out0 ++ Scalar name bits ∷ []
result_types out0 (Pointer n) = named_types out0
result_types Unused Unused = []
result_types (Scalar name bits) Unused = Scalar name bits ∷ []
result_types (Pointer n) Unused = []

-- those that a function uses
abbrev pub function_types : CFunction → List CType
function_types function = result_types function.out0 function.out1 ++ flat_map named_types (arg_types function.args)

-- those that structs and functions use
abbrev pub used_types : List CStruct → List CFunction → List CType
used_types structs functions = flat_map struct_types structs ++ flat_map function_types functions

-- the numbers of structs, and of functions
abbrev pub struct_numbers : List CStruct → List ℕ
struct_numbers structs = map (λ (s : CStruct). s.number) structs

abbrev pub function_numbers : List CFunction → List ℕ
function_numbers functions = map (λ (f : CFunction). f.number) functions

-- Declarations of such parts. Their types are exactly those that are used, in the byte order of their lines; structs are numbered
-- from 0, and pointers lead to these; functions rise.
pub record IsGoodDecls (decls : Decls) : Type 0 where
  pub typedefs : All IsTypedef decls.typedefs
  pub typedefs_rise : AreAscending (map typedef_text decls.typedefs)
  pub exact : (t : CType) → Contains decls.typedefs t ↔ Contains (used_types decls.structs decls.functions) t
  pub structs : All (IsStruct (length decls.structs)) decls.structs
  pub numbered : struct_numbers decls.structs ≡ entries (λ n. n) 0 (length decls.structs)
  pub few : length decls.structs ≤ 2 ^ 32
  pub functions : All (IsFunction (length decls.structs)) decls.functions
  pub functions_rise : IsStrictlyIncreasing (function_numbers decls.functions)
