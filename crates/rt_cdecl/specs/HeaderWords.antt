-- The words that declarations admit.
use Rattle.std.specs.Prelude.{ℕ, ℤ, pos, zero, suc, ◌==◌, ◌&&◌, Bool, Option, Some, None, List, [], ◌∷◌, find}
use Rattle.std.specs.Ordering.{int_eq}
use Rattle.std.specs.Option.{option_map, option_and_then}
use Rattle.std.specs.Map.{lookup}
use Rattle.rt_lines.specs.declared.label.Label.{Label}
use Rattle.rt_lines.specs.declared.label.Label.TheVariants.{In, Out}
use Rattle.rt_lines.specs.Equality.{loc_eq}
use Rattle.rt_cdecl.specs.declared.declarations.CType.{CType}
use Rattle.rt_cdecl.specs.declared.declarations.CType.TheVariants.{Unused, Scalar, Pointer}
use Rattle.rt_cdecl.specs.declared.declarations.CField.{CField}
use Rattle.rt_cdecl.specs.declared.declarations.CStruct.{CStruct}
use Rattle.rt_cdecl.specs.declared.declarations.CFunction.{CFunction}
use Rattle.rt_cdecl.specs.declared.declarations.Decls.{Decls}
use Rattle.rt_cdecl.specs.Types.{bits_of}

-- a letter after an argument or a result: what a pointer leads to, or a field of so many bits at an offset
pub data Letter : Type 0 where
  Pointee : Letter
  At : ℕ → ℤ → Letter

-- an argument or a result, and letters
pub record HeaderWord : Type 0 where
  pub port : Label
  pub letters : List Letter

-- a value of a type, or what a pointer to a struct leads to
pub data Spot : Type 0 where
  OfType : CType → Spot
  OfStruct : ℕ → Spot

-- a field of so many bits at an offset
abbrev pub is_field : ℕ → ℤ → CField → Bool
is_field bits k field = int_eq (pos field.offset) k && (bits_of field.kind == bits)

-- the struct of a number
abbrev pub struct_of : Decls → ℕ → Option CStruct
struct_of decls n = find (λ s. s.number == n) decls.structs

-- the value of a field
abbrev pub field_in : CStruct → ℕ → ℤ → Option Spot
field_in struct bits k = option_map (λ field. OfType field.kind) (find (is_field bits k) struct.fields)

-- where a letter leads
abbrev pub after : Decls → Letter → Spot → Option Spot
after decls Pointee (OfType (Pointer n)) = Some (OfStruct n)
after decls (At bits k) (OfStruct n) = option_and_then (λ struct. field_in struct bits k) (struct_of decls n)
after decls letter spot = None

-- where letters lead
abbrev pub after_all : Decls → List Letter → Spot → Option Spot
after_all decls [] spot = Some spot
after_all decls (letter ∷ letters) spot = option_and_then (after_all decls letters) (after decls letter spot)

-- a type that stands for something
abbrev pub present : CType → Option Spot
present Unused = None
present t = Some (OfType t)

-- the argument or result of a label
abbrev pub port_type : CFunction → Label → Option Spot
port_type function (In loc) = option_and_then present (lookup (loc_eq loc) function.args)
port_type function (Out zero) = present function.out0
port_type function (Out (suc zero)) = present function.out1
port_type function other = None

-- the name of a scalar
abbrev pub scalar_of : Spot → Option (List ℕ)
scalar_of (OfType (Scalar name bits)) = Some name
scalar_of other = None

-- the function of a number
abbrev pub function_of : Decls → ℕ → Option CFunction
function_of decls number = find (λ f. f.number == number) decls.functions

-- whether declarations admit a word for a function, and with which scalar name
abbrev pub word_in : Decls → ℕ → HeaderWord → Option (Option (List ℕ))
word_in decls number word =
    option_map scalar_of (
    option_and_then (after_all decls word.letters) (option_and_then (λ f. port_type f word.port) (function_of decls number)))
