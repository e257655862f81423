-- Headers that are read in part, and whether lines can follow that end them.
use Rattle.std.specs.Prelude.{
  ◌≡◌,
  ℕ,
  suc,
  ◌+◌,
  ◌-◌,
  ◌*◌,
  ◌<◌,
  ◌≤◌,
  ◌^◌,
  ◌⊎◌,
  ◌↔◌,
  IsTrue,
  Bool,
  true,
  false,
  if◌then◌else◌,
  List,
  [],
  ◌∷◌,
  ◌++◌,
  All,
  Contains,
  length,
}
use Rattle.std.specs.List.{flat_map}
use Rattle.rt_cdecl.specs.declared.declarations.CType.{CType}
use Rattle.rt_cdecl.specs.declared.declarations.CType.TheVariants.{Scalar}
use Rattle.rt_cdecl.specs.declared.kinds.Counts.{Counts}
use Rattle.rt_cdecl.specs.Rows.{Row, Typedef, Named, Opened, Gap, Member, Closed, Pair, Half, Stated}
use Rattle.rt_cdecl.specs.GoodDecls.{named_types, used_types, function_numbers}
use Rattle.rt_cdecl.specs.Inside.GoodRows.{IsRow}
use Rattle.rt_cdecl.specs.Inside.Drafts.{Parts, no_parts, Accepts, IsWhole, Stage, Idle, InStruct, InPair, HalfRead, BothRead, PairClosed}
use Rattle.rt_cdecl.specs.Inside.Drafts.{least_after, kinds_of, stage_types, line_types}

-- lines can follow after which the parts are those of a header
pub record CanEnd (parts : Parts) : Type 0 where
  pub rows : List Row
  pub good : All IsRow rows
  pub last : Parts
  pub accepted : Accepts parts rows last
  pub whole : IsWhole last

-- the parts of lines that may each follow those before them
pub record IsReached (parts : Parts) : Type 0 where
  pub rows : List Row
  pub good : All IsRow rows
  pub accepted : Accepts no_parts rows parts

-- no item stands twice
abbrev pub AreApart : {X : Type 0} → List X → Type 0
AreApart [] = Unit {0}
AreApart (x ∷ xs) = (Contains xs x → ⊥) × AreApart xs

-- a list has the items of another but one, and but those of a third
abbrev pub IsDropped : {X : Type 0} → List X → X → List X → Type 0
IsDropped {X} old item new = (x : X) →
    (Contains new x → Contains old x × (x ≡ item → ⊥)) × (Contains old x → Contains new x ⊎ (x ≡ item))

abbrev pub Drops : {X : Type 0} → List X → List X → List X → Type 0
Drops {X} old gone new =
    (x : X) → (Contains new x → Contains old x × (Contains gone x → ⊥)) × (Contains old x → Contains new x ⊎ Contains gone x)

-- the types that the parts use
abbrev pub all_used : Parts → List CType
all_used parts = used_types parts.structs parts.functions ++ stage_types parts.stage

-- the types that are listed and not used
abbrev pub AreLeft : List CType → Parts → Type 0
AreLeft left parts =
    (t : CType) → (Contains left t → Contains parts.typedefs t × (Contains (all_used parts) t → ⊥)) ×
    (Contains parts.typedefs t → Contains left t ⊎ Contains (all_used parts) t)

-- types, each once, by how many there are of each width
pub record AreCounted (types : List CType) (counts : Counts) : Type 0 where
  pub chars : List (List ℕ)
  pub shorts : List (List ℕ)
  pub ints : List (List ℕ)
  pub are : types ≡ kinds_of counts.unused chars shorts ints
  pub each_char : AreApart chars
  pub each_short : AreApart shorts
  pub each_int : AreApart ints
  pub chars_are : length chars ≡ counts.chars
  pub shorts_are : length shorts ≡ counts.shorts
  pub ints_are : length ints ≡ counts.ints

-- there are none
abbrev pub IsZero : Counts → Type 0
IsZero counts = (counts.unused ≡ false) × (counts.chars ≡ 0) × (counts.shorts ≡ 0) × (counts.ints ≡ 0)

-- there are at most 2^30 of each width
abbrev pub IsFew : Counts → Type 0
IsFew counts = (counts.chars ≤ 2 ^ 30) × (counts.shorts ≤ 2 ^ 30) × (counts.ints ≤ 2 ^ 30)

-- a scalar of 32 bits is one of the types
abbrev pub HasInt : List CType → Type 0
HasInt types = (name : List ℕ) × Contains types (Scalar name 32)

-- a type of 32 bits that is that of something can be written: a pointer, or a scalar
abbrev pub HasPresent : Parts → Type 0
HasPresent parts = (0 < parts.named) ⊎ HasInt parts.typedefs

-- Fields of the types that are left fit into a struct from an end on: offsets are below 2^31, and the last field may reach further.
abbrev pub FitStruct : ℕ → Counts → Type 0
FitStruct from left =
    ((left.chars ≡ 0) × (left.shorts ≡ 0)) ⊎
    ((left.chars + from ≤ 2 ^ 31) × (left.chars + 2 * left.shorts + from ≤ 2 ^ 31 + 1))

-- Functions of this number and greater ones have room for the types that are left, and for so many more. A function has two results and
-- 16,392 arguments, which are 32 bits wide, and an absent one is written only beside a present one.
pub record FitFunctions (parts : Parts) (left : Counts) (number taken : ℕ) : Type 0 where
  pub chars : left.chars ≡ 0
  pub shorts : left.shorts ≡ 0
  pub room : (if left.unused then 1 else 0) + left.ints + taken ≤ 16394 * (2 ^ 32 - number)
  pub present : IsTrue left.unused → HasPresent parts

-- what can still be written has room for the types that are left
abbrev pub HasRoomIn : Parts → Counts → Stage → Type 0
HasRoomIn parts left Idle =
    (length parts.structs < parts.named) ⊎ (((parts.named ≡ 0) × (parts.functions ≡ [])) ⊎
    FitFunctions parts left (least_after 0 (function_numbers parts.functions)) 0)
HasRoomIn parts left (InStruct fields from gapped) = (length parts.structs + 1 < parts.named) ⊎ FitStruct from left
HasRoomIn parts left (InPair n) = HasPresent parts × FitFunctions parts left n 0
HasRoomIn parts left (HalfRead n out0) = HasPresent parts × FitFunctions parts left n 1
HasRoomIn parts left (BothRead n out0 out1) = FitFunctions parts left n 2
HasRoomIn parts left (PairClosed n out0 out1) = FitFunctions parts left n 2

abbrev pub HasRoom : Parts → Counts → Type 0
HasRoom parts left = HasRoomIn parts left parts.stage

-- the types that a line uses
abbrev pub row_types : Row → List CType
row_types (Member field) = named_types field.kind
row_types (Half r t) = named_types t
row_types (Stated returns n args) = line_types returns args
row_types row = []
