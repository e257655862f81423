-- Types of declarations: their widths, and which a header may have.
use Rattle.std.specs.Prelude.{◌≡◌, ℕ, ◌+◌, ◌/◌, ◌<◌, ◌^◌, ◌⊎◌}
use Rattle.rt_lines.specs.Names.{IsName}
use Rattle.rt_texts.specs.Goods.{IsNumber}
use Rattle.rt_cdecl.specs.declared.declarations.CType.{CType}
use Rattle.rt_cdecl.specs.declared.declarations.CType.TheVariants.{Unused, Scalar, Pointer}
use Rattle.rt_cdecl.specs.declared.declarations.CField.{CField}

-- the width in bits
abbrev pub bits_of : CType → ℕ
bits_of Unused = 32
bits_of (Scalar name bits) = bits
bits_of (Pointer n) = 32

-- where a field ends
abbrev pub end_of : CField → ℕ
end_of field = field.offset + bits_of field.kind / 8

-- the widths of scalars
abbrev pub IsWidth : ℕ → Type 0
IsWidth bits = (bits ≡ 8) ⊎ ((bits ≡ 16) ⊎ (bits ≡ 32))

-- a type whose scalar has a name and a width, and whose pointer has a number
abbrev pub IsType : CType → Type 0
IsType Unused = Unit {0}
IsType (Scalar name bits) = IsName name × IsWidth bits
IsType (Pointer n) = IsNumber n

-- the type of something
abbrev pub IsPresent : CType → Type 0
IsPresent Unused = ⊥
IsPresent (Scalar name bits) = Unit {0}
IsPresent (Pointer n) = Unit {0}

-- a type that has a line of its own
abbrev pub IsTypedef : CType → Type 0
IsTypedef Unused = Unit {0}
IsTypedef (Scalar name bits) = IsType (Scalar name bits)
IsTypedef (Pointer n) = ⊥

-- the type of an argument or a result, which is 32 bits wide
abbrev pub IsWide : CType → Type 0
IsWide t = IsType t × (bits_of t ≡ 32)

-- a field of some type, whose offset is that of a label
abbrev pub IsField : CField → Type 0
IsField field = IsType field.kind × IsPresent field.kind × (field.offset < 2 ^ 31)
