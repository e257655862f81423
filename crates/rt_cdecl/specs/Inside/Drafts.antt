-- Headers that are read in part, and which line may follow.
use Rattle.std.specs.Prelude.{
  ◌≡◌,
  ℕ,
  zero,
  suc,
  ◌+◌,
  ◌<◌,
  ◌≤◌,
  ◌^◌,
  ◌↔◌,
  ◌⊎◌,
  List,
  [],
  ◌∷◌,
  ◌++◌,
  Bool,
  true,
  false,
  if◌then◌else◌,
  All,
  Contains,
  map,
  length,
}
use Rattle.std.specs.List.{flat_map}
use Rattle.std.specs.Ordering.{nat_cmp}
use Rattle.std.specs.Cmp.Lexicographic.{slice_cmp}
use Rattle.std.specs.declared.cmp.Ordering.TheVariants.{Less}
use Rattle.rt_lines.specs.declared.label.Loc.{Loc}
use Rattle.rt_cdecl.specs.declared.declarations.CType.{CType}
use Rattle.rt_cdecl.specs.declared.declarations.CType.TheVariants.{Unused, Scalar}
use Rattle.rt_cdecl.specs.declared.declarations.CField.{CField}
use Rattle.rt_cdecl.specs.declared.declarations.CStruct.{CStruct}
use Rattle.rt_cdecl.specs.declared.declarations.CFunction.{CFunction}
use Rattle.rt_cdecl.specs.declared.declarations.Decls.{Decls}
use Rattle.rt_cdecl.specs.Types.{end_of, IsPresent}
use Rattle.rt_cdecl.specs.Rows.{Row, Typedef, Named, Opened, Gap, Member, Closed, Pair, Half, Stated, typedef_text}
use Rattle.rt_cdecl.specs.Rows.{Returns, Nothing, Value, Both}
use Rattle.rt_cdecl.specs.GoodDecls.{LeadsBelow, arg_types, named_types, result_types, function_numbers, used_types}
pub use Rattle.rt_cdecl.specs.declared.stage.Stage.{Stage}
pub use Rattle.rt_cdecl.specs.declared.stage.Stage.TheVariants.{Idle, InStruct, InPair, HalfRead, BothRead, PairClosed}

-- what was read: the types, how many structs were named, the structs, the functions, and what is still to be ended
pub record Parts : Type 0 where
  pub typedefs : List CType
  pub named : ℕ
  pub structs : List CStruct
  pub functions : List CFunction
  pub stage : Stage

-- nothing was read
abbrev pub no_parts : Parts
no_parts = record { typedefs = []; named = 0; structs = []; functions = []; stage = Idle }

-- a function of these parts
abbrev pub function_of_parts : ℕ → List (Loc × CType) → CType → CType → CFunction
function_of_parts number args out0 out1 = record { number = number; args = args; out0 = out0; out1 = out1 }

-- the result in a0 of what a function gives
abbrev pub result_of : Returns → CType
result_of Nothing = Unused
result_of (Value t) = t
result_of Both = Unused

-- the function that a line states, after the lines of its pair where it has one
abbrev pub stated_of : Stage → Returns → ℕ → List (Loc × CType) → CFunction
stated_of (PairClosed m out0 out1) returns n args = function_of_parts n args out0 out1
stated_of stage returns n args = function_of_parts n args (result_of returns) Unused

-- the structs and the stage, with a struct's end or a pair's end more
abbrev pub closed_structs : List CStruct → Stage → List CStruct
closed_structs structs (InStruct fields from gapped) = structs ++ record { number = length structs; fields = fields } ∷ []
closed_structs structs stage = structs

abbrev pub closed_stage : Stage → Stage
closed_stage (InStruct fields from gapped) = Idle
closed_stage (BothRead n out0 out1) = PairClosed n out0 out1
closed_stage stage = stage

-- the stage with a gap, a field, and a result of a pair more
abbrev pub gapped_of : Stage → ℕ → Stage
gapped_of (InStruct fields from gapped) n = InStruct fields (from + n) true
gapped_of stage n = stage

abbrev pub member_of : Stage → CField → Stage
member_of (InStruct fields from gapped) field = InStruct (fields ++ field ∷ []) (end_of field) false
member_of stage field = stage

abbrev pub half_of : Stage → CType → Stage
half_of (InPair n) t = HalfRead n t
half_of (HalfRead n out0) t = BothRead n out0 t
half_of stage t = stage

-- what was read, with one line more
abbrev pub with_row : Parts → Row → Parts
with_row parts (Typedef t) = record parts { typedefs = parts.typedefs ++ t ∷ [] }
with_row parts (Named n) = record parts { named = parts.named + 1 }
with_row parts (Opened n) = record parts { stage = InStruct [] 0 false }
with_row parts (Gap k n) = record parts { stage = gapped_of parts.stage n }
with_row parts (Member field) = record parts { stage = member_of parts.stage field }
with_row parts Closed = record parts { structs = closed_structs parts.structs parts.stage; stage = closed_stage parts.stage }
with_row parts (Pair n) = record parts { stage = InPair n }
with_row parts (Half r t) = record parts { stage = half_of parts.stage t }
with_row parts (Stated returns n args) =
    record parts { functions = parts.functions ++ stated_of parts.stage returns n args ∷ []; stage = Idle }

-- the lines of types that follow a line
abbrev pub LastBefore : List CType → CType → Type 0
LastBefore [] t = Unit {0}
LastBefore (last ∷ []) t = slice_cmp nat_cmp (typedef_text last) (typedef_text t) ≡ Less
LastBefore (first ∷ next ∷ ts) t = LastBefore (next ∷ ts) t

-- the type is listed, if it has a line, and it leads to a struct that was named
abbrev pub IsListed : Parts → CType → Type 0
IsListed parts t = All (Contains parts.typedefs) (named_types t) × LeadsBelow parts.named t

-- the least number that ascending numbers go on with
abbrev pub least_after : ℕ → List ℕ → ℕ
least_after low [] = low
least_after low (n ∷ ns) = least_after (n + 1) ns

-- a function of the number may follow the structs and functions that were read
abbrev pub MayState : Parts → ℕ → Type 0
MayState parts n = (length parts.structs ≡ parts.named) × (least_after 0 (function_numbers parts.functions) ≤ n)

-- a gap, a field, and an end may follow in a struct or in a pair
abbrev pub MayGap : Stage → ℕ → ℕ → Type 0
MayGap (InStruct fields from false) k n = (k ≡ from) × (0 < n) × (k + n < 2 ^ 31)
MayGap stage k n = ⊥

abbrev pub BeginsAt : Stage → ℕ → Type 0
BeginsAt (InStruct fields from gapped) k = k ≡ from
BeginsAt stage k = ⊥

abbrev pub MayClose : Stage → Type 0
MayClose (InStruct fields from false) = Unit {0}
MayClose (BothRead n out0 out1) = Unit {0}
MayClose stage = ⊥

-- a result may follow in a pair
abbrev pub MayHalf : Stage → ℕ → CType → Type 0
MayHalf (InPair n) zero t = Unit {0}
MayHalf (HalfRead n out0) (suc zero) t = IsPresent t
MayHalf stage r t = ⊥

-- a function's line may follow, without a pair and after one
abbrev pub MayReturn : Parts → Stage → Returns → ℕ → Type 0
MayReturn parts Idle Nothing n = MayState parts n
MayReturn parts Idle (Value t) n = MayState parts n × IsListed parts t
MayReturn parts (PairClosed m out0 out1) Both n = n ≡ m
MayReturn parts stage returns n = ⊥

-- The line may follow, as far as the lines before it tell: whether the types that are listed can all be used is not asked.
abbrev pub Fits : Parts → Row → Type 0
Fits parts (Typedef t) = (parts.stage ≡ Idle) × (parts.named ≡ 0) × (parts.functions ≡ []) × LastBefore parts.typedefs t
Fits parts (Named n) = (parts.stage ≡ Idle) × (parts.structs ≡ []) × (parts.functions ≡ []) × (n ≡ parts.named)
Fits parts (Opened n) = (parts.stage ≡ Idle) × (parts.functions ≡ []) × (n ≡ length parts.structs) × (n < parts.named)
Fits parts (Gap k n) = MayGap parts.stage k n
Fits parts (Member field) = BeginsAt parts.stage field.offset × IsListed parts field.kind
Fits parts Closed = MayClose parts.stage
Fits parts (Pair n) = (parts.stage ≡ Idle) × MayState parts n
Fits parts (Half r t) = MayHalf parts.stage r t × IsListed parts t
Fits parts (Stated returns n args) = MayReturn parts parts.stage returns n × All (IsListed parts) (arg_types args)

-- the parts are those of a header
abbrev pub IsWhole : Parts → Type 0
IsWhole parts =
    (parts.stage ≡ Idle) × (length parts.structs ≡ parts.named) ×
    All (Contains (used_types parts.structs parts.functions)) parts.typedefs

-- the declarations of whole parts
abbrev pub decls_of : Parts → Decls
decls_of parts = record { typedefs = parts.typedefs; structs = parts.structs; functions = parts.functions }

-- each of the lines may follow, and with all of them the parts are these
abbrev pub Accepts : Parts → List Row → Parts → Type 0
Accepts parts [] last = parts ≡ last
Accepts parts (row ∷ rows) last = Fits parts row × Accepts (with_row parts row) rows last

-- a list has one item more, and has those of another list more
abbrev pub IsAdded : {X : Type 0} → List X → X → List X → Type 0
IsAdded {X} old item new = (x : X) → Contains new x ↔ (Contains old x ⊎ (x ≡ item))

abbrev pub Adds : {X : Type 0} → List X → List X → List X → Type 0
Adds {X} old more new = (x : X) → Contains new x ↔ (Contains old x ⊎ Contains more x)

-- types by the names of the scalars of each width
abbrev pub kinds_of : Bool → List (List ℕ) → List (List ℕ) → List (List ℕ) → List CType
kinds_of unused chars shorts ints =
    (if unused then Unused ∷ [] else []) ++ (map (λ (n : List ℕ). Scalar n 8) chars ++ (map (λ (n : List ℕ). Scalar n 16) shorts ++
    map (λ (n : List ℕ). Scalar n 32) ints))

-- the types of what is still to be ended
abbrev pub stage_types : Stage → List CType
stage_types (InStruct fields from gapped) = flat_map (λ (f : CField). named_types f.kind) fields
stage_types (HalfRead n out0) = named_types out0
stage_types (BothRead n out0 out1) = result_types out0 out1
stage_types (PairClosed n out0 out1) = result_types out0 out1
stage_types stage = []

-- the types of a function's line
abbrev pub returned_types : Returns → List CType
returned_types (Value t) = named_types t
returned_types returns = []

abbrev pub line_types : Returns → List (Loc × CType) → List CType
line_types returns args = flat_map named_types (arg_types args) ++ returned_types returns

-- the types are those of the structs, of the functions and of what is still to be ended
abbrev pub AreNoted : List CType → List CStruct → List CFunction → Stage → Type 0
AreNoted used structs functions stage = (t : CType) → Contains used t ↔ Contains (used_types structs functions ++ stage_types stage) t
