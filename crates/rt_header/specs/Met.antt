-- The order in which structs are met.
use Rattle.std.specs.Prelude.{◌≡◌, ℕ, ◌+◌, ◌<◌, List, [], ◌∷◌, ◌++◌, length}
use Rattle.std.specs.List.{flat_map}
use Rattle.rt_tree.specs.Trees.{Stand}
use Rattle.rt_cdecl.specs.declared.declarations.CType.{CType}
use Rattle.rt_cdecl.specs.declared.declarations.CType.TheVariants.{Pointer}
use Rattle.rt_cdecl.specs.declared.declarations.CField.{CField}
use Rattle.rt_cdecl.specs.declared.declarations.CStruct.{CStruct}
use Rattle.rt_cdecl.specs.declared.declarations.CFunction.{CFunction}
use Rattle.rt_cdecl.specs.declared.declarations.Decls.{Decls}
use Rattle.rt_cdecl.specs.GoodDecls.{arg_types}

-- the struct that a pointer leads to
abbrev pub struct_in : CType → List ℕ
struct_in (Pointer n) = n ∷ []
struct_in other = []

-- those of a struct's fields, in order
abbrev pub structs_of_fields : List CField → List ℕ
structs_of_fields fields = flat_map (λ (f : CField). struct_in f.kind) fields

-- those of a function's arguments and then of its results
abbrev pub structs_of_function : CFunction → List ℕ
structs_of_function f = flat_map struct_in (arg_types f.args ++ f.out0 ∷ f.out1 ∷ [])

-- Structs from number n on, of which those below a count have been met: the pointers of each lead to ones that were met, or to the
-- next number. In the end each that was met is among them.
abbrev pub AreSearched : ℕ → ℕ → List CStruct → Type 0
AreSearched n before [] = before ≡ n
AreSearched n before (struct ∷ structs) =
    (n < before) × (after : ℕ) × Stand before (structs_of_fields struct.fields) after × AreSearched (n + 1) after structs

-- The structs from number n on, for these functions: those that are first met from the first function, breadth first from its
-- arguments and results, and then those of the others.
abbrev pub AreMet : ℕ → List CStruct → List CFunction → Type 0
AreMet n structs [] = structs ≡ []
AreMet n structs (f ∷ functions) =
    (own : List CStruct) × (rest : List CStruct) × (structs ≡ own ++ rest) × (after : ℕ) × Stand n (structs_of_function f) after ×
    AreSearched n after own × AreMet (n + length own) rest functions

-- structs are numbered as they are first met
abbrev pub IsFirstMet : Decls → Type 0
IsFirstMet decls = AreMet 0 decls.structs decls.functions
