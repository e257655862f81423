-- How declarations are made of trees: parts of the way to headers.
use Rattle.std.specs.Prelude.{
  ◌≡◌,
  ℕ,
  ◌+◌,
  ◌<◌,
  Option,
  Some,
  None,
  IsSome,
  List,
  [],
  ◌∷◌,
  ◌++◌,
  ◌^◌,
  false,
  length,
  get_or,
  slice_index,
  slice_index_or,
}
use Rattle.rt_lines.specs.declared.label.Loc.{Loc}
use Rattle.rt_lines.specs.declared.label.Label.{Label}
use Rattle.rt_lines.specs.declared.label.Label.TheVariants.{In, Out}
use Rattle.rt_tree.specs.Trees.{IsTree, Nodes, node_at, step_of}
use Rattle.rt_tree.specs.Partitions.{AreClassesOf, IsGraph}
use Rattle.rt_erase.specs.declared.row.Row.{Row}
use Rattle.rt_erase.specs.Rows.{fields_of, is_pointer, pointee_of, scalar_number}
use Rattle.rt_erase.specs.Erasures.{Erased, AreExtremes, HasErased, HasNames, HasNamesAt}
use Rattle.rt_cdecl.specs.declared.declarations.CType.{CType}
use Rattle.rt_cdecl.specs.declared.declarations.CType.TheVariants.{Unused, Scalar, Pointer}
use Rattle.rt_cdecl.specs.declared.declarations.CField.{CField}
use Rattle.rt_cdecl.specs.declared.declarations.CStruct.{CStruct}
use Rattle.rt_cdecl.specs.declared.declarations.CFunction.{CFunction}
use Rattle.rt_cdecl.specs.GoodDecls.{place_of}

-- trees whose nodes stand in one graph, each from its start on, and the classes of the graph's nodes
pub record Forest : Type 0 where
  pub names : List (List ℕ)
  pub erased : Erased
  pub trees : List Nodes
  pub starts : List ℕ
  pub classes : List ℕ

abbrev pub tree_of : Forest → ℕ → Nodes
tree_of forest i = get_or forest.trees i []

-- the class of what a pointer to a node of a tree leads to
abbrev pub class_of : Forest → ℕ → ℕ → ℕ
class_of forest i n = slice_index forest.classes (get_or forest.starts i 0 + n)

-- each tree has a root and stands in the graph
pub record IsForest (forest : Forest) : Type 0 where
  pub graph : IsGraph forest.erased.graph
  pub extremes : AreExtremes forest.erased.extremes
  pub names : HasNames forest.erased.extremes.count forest.erased.graph
  pub count : length forest.names ≡ forest.erased.extremes.count
  pub classes : AreClassesOf forest.erased.graph forest.classes
  pub each : length forest.starts ≡ length forest.trees
  pub trees : (i : ℕ) → i < length forest.trees →
      IsTree (tree_of forest i) × HasNamesAt forest.erased.extremes.count (tree_of forest i) ×
      HasErased forest.erased.extremes forest.erased.graph (get_or forest.starts i 0) (tree_of forest i)

-- Structs by their numbers: what a pointer to which node of which tree leads to.
abbrev pub Structs : Type 0
Structs = List (ℕ × ℕ)

-- the struct of a number stands for all of its class
pub record IsStructOf (forest : Forest) (structs : Structs) (i n : ℕ) (number : ℕ) : Type 0 where
  pub within : number < length structs
  pub class : class_of forest (get_or structs number (0, 0)).0 (get_or structs number (0, 0)).1 ≡ class_of forest i n

-- nodes of trees, no two of one class
pub record AreStructs (forest : Forest) (structs : Structs) : Type 0 where
  pub tree : (s : ℕ) → s < length structs → (get_or structs s (0, 0)).0 < length forest.trees
  pub node : (s : ℕ) → s < length structs → (get_or structs s (0, 0)).1 < length (tree_of forest (get_or structs s (0, 0)).0)
  pub one : (s t : ℕ) → s < length structs → t < length structs →
      class_of forest (get_or structs s (0, 0)).0 (get_or structs s (0, 0)).1 ≡
      class_of forest (get_or structs t (0, 0)).0 (get_or structs t (0, 0)).1 → s ≡ t

-- the type of a value of so many bits at a node of a tree
pub data IsTypeOf (forest : Forest) (structs : Structs) (i bits n : ℕ) : CType → Type 0 where
  pointer : (m s : ℕ) → bits ≡ 32 → pointee_of (tree_of forest i) n ≡ Some m → IsStructOf forest structs i m s →
      IsTypeOf forest structs i bits n (Pointer s)
  scalar : is_pointer (tree_of forest i) bits n ≡ false → IsTypeOf forest structs i bits n (Scalar (slice_index_or forest.names
      (scalar_number forest.erased.extremes.top forest.erased.extremes.bottom (node_at (tree_of forest i) n)) []) bits)

-- the fields of rows, one of each
abbrev pub AreFieldsOf : Forest → Structs → ℕ → List Row → List CField → Type 0
AreFieldsOf forest structs i [] [] = Unit {0}
AreFieldsOf forest structs i [] (field ∷ fields) = ⊥
AreFieldsOf forest structs i (row ∷ rows) [] = ⊥
AreFieldsOf forest structs i (row ∷ rows) (field ∷ fields) =
    (field.offset ≡ row.offset) × IsTypeOf forest structs i row.bits row.node field.kind × AreFieldsOf forest structs i rows fields

-- a struct has the fields of what it stands for
pub record IsStructBuilt (forest : Forest) (structs : Structs) (s : ℕ) (struct : CStruct) : Type 0 where
  pub number : struct.number ≡ s
  pub fields : let at : ℕ × ℕ = get_or structs s (0, 0) in
      AreFieldsOf forest structs at.0 (fields_of (node_at (tree_of forest at.0) at.1)) struct.fields

-- the type of an argument or a result: `Unused` where the tree has none
pub data IsPortOf (forest : Forest) (structs : Structs) (i : ℕ) (label : Label) : CType → Type 0 where
  used : (n : ℕ) (t : CType) → step_of (tree_of forest i) 0 label ≡ Some n → IsTypeOf forest structs i 32 n t →
      IsPortOf forest structs i label t
  unused : step_of (tree_of forest i) 0 label ≡ None → IsPortOf forest structs i label Unused

-- the function of a tree
pub record IsFunctionBuilt (forest : Forest) (structs : Structs) (i : ℕ) (function : CFunction) : Type 0 where
  pub places : (j : ℕ) → j < length function.args → (get_or function.args j (place_of 0, Unused)).0 ≡ place_of j
  pub args : (j : ℕ) → j < length function.args →
      IsPortOf forest structs i (In (place_of j)) (get_or function.args j (place_of 0, Unused)).1
  pub all : (loc : Loc) → IsSome (step_of (tree_of forest i) 0 (In loc)) →
      (j : ℕ) × (j < length function.args) × (place_of j ≡ loc)
  pub out0 : IsPortOf forest structs i (Out 0) function.out0
  pub out1 : IsPortOf forest structs i (Out 1) function.out1

-- the structs and functions of a forest
pub record AreBuilt (forest : Forest) (structs : Structs) (made : List CStruct) (functions : List CFunction) : Type 0 where
  pub are : AreStructs forest structs
  pub each : length made ≡ length structs
  pub built : (s : ℕ) → s < length structs → IsStructBuilt forest structs s (get_or made s (record { number = 0; fields = [] }))
  pub one_each : length functions ≡ length forest.trees
  pub each_function : (i : ℕ) → i < length functions → IsFunctionBuilt forest structs i
      (get_or functions i (record { number = 0; args = []; out0 = Unused; out1 = Unused }))

-- the first list begins the second one
abbrev pub HasMore : Structs → Structs → Type 0
HasMore old new = (more : Structs) × (new ≡ old ++ more)

-- the number of the struct of each class that has one
pub record AreNumbered (forest : Forest) (structs : Structs) (numbers : List (Option ℕ)) : Type 0 where
  pub each : length numbers ≡ length forest.erased.graph
  pub some : (c s : ℕ) → get_or numbers c None ≡ Some s →
      (s < length structs) × (class_of forest (get_or structs s (0, 0)).0 (get_or structs s (0, 0)).1 ≡ c)
  pub none : (s : ℕ) → s < length structs →
      get_or numbers (class_of forest (get_or structs s (0, 0)).0 (get_or structs s (0, 0)).1) None ≡ Some s

-- structs, and their numbers by their classes
pub record IsMaking (forest : Forest) (structs : Structs) (numbers : List (Option ℕ)) : Type 0 where
  pub are : AreStructs forest structs
  pub numbered : AreNumbered forest structs numbers
  pub few : length structs < 2 ^ 32

-- a node of a tree of a forest
pub record IsNodeOf (forest : Forest) (i n : ℕ) : Type 0 where
  pub tree : i < length forest.trees
  pub node : n < length (tree_of forest i)
