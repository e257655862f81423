-- The lines of headers.
use Rattle.std.specs.Prelude.{ℕ, List, [], ◌∷◌, ◌++◌, codes, decimal, ◌==◌, if◌then◌else◌}
use Rattle.std.specs.List.{flat_map}
use Rattle.rt_lines.specs.declared.label.Loc.{Loc}
use Rattle.rt_lines.specs.declared.label.Loc.TheVariants.{Arg, Stack}
use Rattle.rt_cdecl.specs.declared.declarations.CType.{CType}
use Rattle.rt_cdecl.specs.declared.declarations.CType.TheVariants.{Unused, Scalar, Pointer}
pub use Rattle.rt_cdecl.specs.declared.row.Returns.{Returns}
pub use Rattle.rt_cdecl.specs.declared.row.Returns.TheVariants.{Nothing, Value, Both}
pub use Rattle.rt_cdecl.specs.declared.row.Row.{Row}
pub use Rattle.rt_cdecl.specs.declared.row.Row.TheVariants.{Typedef, Named, Opened, Gap, Member, Closed, Pair, Half, Stated}

-- the C type that a scalar of so many bits stands for
abbrev pub carrier_text : ℕ → List ℕ
carrier_text bits = if bits == 8 then codes "char" else if bits == 16 then codes "short" else codes "int"

-- a scalar's name in C
abbrev pub scalar_text : List ℕ → ℕ → List ℕ
scalar_text name bits = codes "rt_" ++ (name ++ (codes "_" ++ decimal bits))

-- the line of a type, without the line's end
abbrev pub typedef_text : CType → List ℕ
typedef_text Unused = codes "typedef unsigned int rt_unused;"
typedef_text (Scalar name bits) =
    codes "typedef unsigned " ++ (carrier_text bits ++ (codes " " ++ (scalar_text name bits ++ codes ";")))
typedef_text (Pointer n) = []

-- a type, up to the name of what is declared
abbrev pub type_text : CType → List ℕ
type_text Unused = codes "rt_unused "
type_text (Scalar name bits) = scalar_text name bits ++ codes " "
type_text (Pointer n) = codes "struct s" ++ (decimal n ++ codes " *")

-- the name of an argument
abbrev pub loc_text : Loc → List ℕ
loc_text (Arg n) = codes "a" ++ decimal n
loc_text (Stack k) = codes "k" ++ decimal k

-- an argument
abbrev pub arg_text : Loc × CType → List ℕ
arg_text (loc, t) = type_text t ++ loc_text loc

-- arguments that follow others
abbrev pub more_args_text : List (Loc × CType) → List ℕ
more_args_text args = flat_map (λ (arg : Loc × CType). codes ", " ++ arg_text arg) args

-- arguments, and `void` for none
abbrev pub args_text : List (Loc × CType) → List ℕ
args_text [] = codes "void"
args_text (arg ∷ args) = arg_text arg ++ more_args_text args

-- what a function of this number gives
abbrev pub returns_text : ℕ → Returns → List ℕ
returns_text n Nothing = codes "void "
returns_text n (Value t) = type_text t
returns_text n Both = codes "struct r" ++ (decimal n ++ codes " ")

-- a line's text, without the line's end
abbrev pub row_text : Row → List ℕ
row_text (Typedef t) = typedef_text t
row_text (Named n) = codes "struct s" ++ (decimal n ++ codes ";")
row_text (Opened n) = codes "struct s" ++ (decimal n ++ codes " {")
row_text (Gap k n) = codes "  unsigned char p" ++ (decimal k ++ (codes "[" ++ (decimal n ++ codes "];")))
row_text (Member field) = codes "  " ++ (type_text field.kind ++ (codes "m" ++ (decimal field.offset ++ codes ";")))
row_text Closed = codes "};"
row_text (Pair n) = codes "struct r" ++ (decimal n ++ codes " {")
row_text (Half r t) = codes "  " ++ (type_text t ++ (codes "a" ++ (decimal r ++ codes ";")))
row_text (Stated returns n args) = returns_text n returns ++ (codes "f" ++ (decimal n ++ (codes "(" ++ (args_text args ++ codes ");"))))

-- lines, each with its line end
abbrev pub rows_text : List Row → List ℕ
rows_text rows = flat_map (λ (row : Row). row_text row ++ 10 ∷ []) rows
