-- The text of declarations.
use Rattle.std.specs.Prelude.{ℕ, ◌-◌, List, [], ◌∷◌, ◌++◌, map, ◌==◌, if◌then◌else◌}
use Rattle.std.specs.List.{flat_map}
use Rattle.rt_cdecl.specs.declared.declarations.CType.{CType}
use Rattle.rt_cdecl.specs.declared.declarations.CType.TheVariants.{Unused, Scalar, Pointer}
use Rattle.rt_cdecl.specs.declared.declarations.CField.{CField}
use Rattle.rt_cdecl.specs.declared.declarations.CStruct.{CStruct}
use Rattle.rt_cdecl.specs.declared.declarations.CFunction.{CFunction}
use Rattle.rt_cdecl.specs.declared.declarations.Decls.{Decls}
use Rattle.rt_cdecl.specs.Types.{end_of}
use Rattle.rt_cdecl.specs.Rows.{Row, Typedef, Named, Opened, Gap, Member, Closed, Pair, Half, Stated, rows_text}
use Rattle.rt_cdecl.specs.Rows.{Returns, Nothing, Value, Both}

-- the line of the bytes between an end and an offset, where there are any
abbrev pub gap_rows : ℕ → ℕ → List Row
gap_rows from to = if from == to then [] else Gap from (to - from) ∷ []

-- the lines of fields, from where those before them end
abbrev pub fields_rows : ℕ → List CField → List Row
fields_rows from [] = []
fields_rows from (field ∷ fields) = gap_rows from field.offset ++ (Member field ∷ fields_rows (end_of field) fields)

-- the lines of a struct
abbrev pub struct_rows : CStruct → List Row
struct_rows struct = Opened struct.number ∷ (fields_rows 0 struct.fields ++ Closed ∷ [])

-- the lines of the pair of two results, and of one none
abbrev pub pair_rows : ℕ → CType → CType → List Row
pair_rows number out0 Unused = []
pair_rows number out0 (Scalar name bits) = Pair number ∷ Half 0 out0 ∷ Half 1 (Scalar name bits) ∷ Closed ∷ []
pair_rows number out0 (Pointer n) = Pair number ∷ Half 0 out0 ∷ Half 1 (Pointer n) ∷ Closed ∷ []

-- what a function gives, by the results in a0 and in a1
abbrev pub returns_of : CType → CType → Returns
returns_of out0 (Scalar name bits) = Both
returns_of out0 (Pointer n) = Both
returns_of Unused Unused = Nothing
returns_of (Scalar name bits) Unused = Value (Scalar name bits)
returns_of (Pointer n) Unused = Value (Pointer n)

-- the line of a function alone
abbrev pub stated_row : CFunction → Row
stated_row function = Stated (returns_of function.out0 function.out1) function.number function.args

-- the lines of a function
abbrev pub function_rows : CFunction → List Row
function_rows function = pair_rows function.number function.out0 function.out1 ++ stated_row function ∷ []

-- the lines of declarations: types, the names of structs, structs, and functions
abbrev pub decls_rows : Decls → List Row
decls_rows decls =
    map Typedef decls.typedefs ++ (map (λ (s : CStruct). Named s.number) decls.structs ++
    (flat_map struct_rows decls.structs ++ flat_map function_rows decls.functions))

-- the text of declarations
abbrev pub decls_text : Decls → List ℕ
decls_text decls = rows_text (decls_rows decls)
