-- Which nodes arguments lead to, and their types: parts of the way to functions.
use Rattle.std.specs.Prelude.{◌≡◌, ℕ, ◌+◌, ◌/◌, ◌<◌, ◌≤◌, ◌⊎◌, All, Option, Some, None, IsSome, List, [], ◌∷◌, get_or, length}
use Rattle.std.specs.List.{flat_map}
use Rattle.std.specs.Map.{lookup}
use Rattle.std.specs.Option.{option_or}
use Rattle.rt_lines.specs.declared.label.Loc.{Loc}
use Rattle.rt_lines.specs.declared.label.Loc.TheVariants.{Arg, Stack}
use Rattle.rt_lines.specs.declared.label.Label.{Label}
use Rattle.rt_lines.specs.declared.label.Label.TheVariants.{In}
use Rattle.rt_lines.specs.Equality.{label_eq}
use Rattle.rt_tree.specs.Trees.{Stand}
use Rattle.rt_cdecl.specs.declared.declarations.CType.{CType}
use Rattle.rt_cdecl.specs.declared.declarations.CType.TheVariants.{Unused}
use Rattle.rt_cdecl.specs.Types.{IsPresent, IsWide}
use Rattle.rt_cdecl.specs.GoodDecls.{IsArgument, LeadsBelow, arg_types, place_of}
use Rattle.rt_header.specs.Inside.Built.{Forest, IsNodeOf, IsTypeOf, Structs}
use Rattle.rt_header.specs.Met.{struct_in}

-- the index of an argument's place
abbrev pub index_of : Loc → ℕ
index_of (Arg n) = n
index_of (Stack k) = 8 + k / 4

-- the node that an argument of an index leads to by some edges
abbrev pub argument_in : List (Label × ℕ) → ℕ → Option ℕ
argument_in edges j = lookup (label_eq (In (place_of j))) edges

-- a list has the node of one more argument, unless there is one of its index
pub record IsNoted (old new : List (Option ℕ)) (index node : ℕ) : Type 0 where
  pub here : get_or new index None ≡ option_or (get_or old index None) (Some node)
  pub others : (j : ℕ) → (j ≡ index → ⊥) → get_or new j None ≡ get_or old j None
  pub most : (index < length new) × (length old ≤ length new) × ((length new ≡ length old) ⊎ (length new ≡ index + 1))

-- the nodes that arguments lead to by edges, up to the last one that there is
pub record AreArguments (edges : List (Label × ℕ)) (args : List (Option ℕ)) : Type 0 where
  pub few : length args ≤ 16392
  pub each : (j : ℕ) → get_or args j None ≡ argument_in edges j
  pub last : (j : ℕ) → j + 1 ≡ length args → IsSome (get_or args j None)

-- the type of an argument or a result that leads to a node, or to none
abbrev pub IsPortType : Forest → Structs → ℕ → Option ℕ → CType → Type 0
IsPortType forest structs i None t = t ≡ Unused
IsPortType forest structs i (Some n) t = IsTypeOf forest structs i 32 n t × IsPresent t

-- the first argument place, unused
abbrev pub no_argument : Loc × CType
no_argument = (place_of 0, Unused)

-- arguments that lead to the first nodes
pub record AreTyped (forest : Forest) (structs : Structs) (i : ℕ) (nodes : List (Option ℕ)) (count : ℕ)
    (args : List (Loc × CType)) : Type 0 where
  pub each : length args ≡ count
  pub places : (j : ℕ) → j < count → (get_or args j no_argument).0 ≡ place_of j
  pub types : (j : ℕ) → j < count → IsPortType forest structs i (get_or nodes j None) (get_or args j no_argument).1
  pub good : All IsArgument args
  pub lead : All (LeadsBelow (length structs)) (arg_types args)

-- those of a list of structs that pointers of arguments lead to
abbrev pub structs_of_arguments : List (Loc × CType) → List ℕ
structs_of_arguments args = flat_map struct_in (arg_types args)

-- each of some nodes is one of a tree
abbrev pub AreNodesOf : Forest → ℕ → List (Option ℕ) → Type 0
AreNodesOf forest i nodes = (j n : ℕ) → get_or nodes j None ≡ Some n → IsNodeOf forest i n
