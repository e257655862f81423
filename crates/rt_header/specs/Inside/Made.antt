-- What has been made on the way to a header: parts of the way.
use Rattle.std.specs.Prelude.{◌≡◌, ℕ, ◌+◌, ◌<◌, ◌≤◌, ◌⊎◌, Some, All, List, [], ◌∷◌, ◌++◌, length, get_or}
use Rattle.rt_tree.specs.Trees.{Nodes, IsTree, Stand}
use Rattle.rt_cdecl.specs.declared.declarations.CStruct.{CStruct}
use Rattle.rt_cdecl.specs.GoodDecls.{IsStruct}
use Rattle.rt_erase.specs.Erasures.{Erased, HasErased, HasNamesAt}
use Rattle.rt_erase.specs.Rows.{pointee_of}
use Rattle.rt_header.specs.Inside.Built.{Forest, Structs, IsStructOf, IsStructBuilt}
use Rattle.rt_header.specs.Met.{structs_of_fields}

-- a tree whose marks are names stands in a graph
pub record IsErased (erased : Erased) (start : ℕ) (tree : Nodes) : Type 0 where
  pub whole : IsTree tree
  pub names : HasNamesAt erased.extremes.count tree
  pub stands : HasErased erased.extremes erased.graph start tree

-- each tree stands in a graph
pub record AreErased (erased : Erased) (starts : List ℕ) (trees : List Nodes) : Type 0 where
  pub each : length starts ≡ length trees
  pub every : (i : ℕ) → i < length trees → IsErased erased (get_or starts i 0) (get_or trees i [])

-- what a value of so many bits at a node points to
pub record IsPointee (tree : Nodes) (bits n m : ℕ) : Type 0 where
  pub wide : bits ≡ 32
  pub pointee : pointee_of tree n ≡ Some m
  pub within : m < length tree

-- the number of what a pointer leads to is one that its class has, or else the next
pub record IsNumberOf (forest : Forest) (old new : Structs) (i n number : ℕ) : Type 0 where
  pub next : ((number < length old) × (new ≡ old)) ⊎ ((number ≡ length old) × (new ≡ old ++ (i, n) ∷ []))
  pub is : IsStructOf forest new i n number

-- a struct by its number
abbrev pub struct_at : List CStruct → ℕ → CStruct
struct_at made s = get_or made s (record { number = 0; fields = [] })

-- the structs of the first numbers
pub record AreMade (forest : Forest) (structs : Structs) (made : List CStruct) : Type 0 where
  pub few : length made ≤ length structs
  pub built : (s : ℕ) → s < length made → IsStructBuilt forest structs s (struct_at made s)
  pub good : All (IsStruct (length structs)) made

-- structs from number n on, of which those below a count have been met before, and those below the last in the end
abbrev pub AreSearchedTo : ℕ → ℕ → List CStruct → ℕ → Type 0
AreSearchedTo n before [] after = before ≡ after
AreSearchedTo n before (struct ∷ structs) after =
    (n < before) × (mid : ℕ) × Stand before (structs_of_fields struct.fields) mid × AreSearchedTo (n + 1) mid structs after

-- structs after those made before
pub record HasSearched (made now : List CStruct) (before after : ℕ) : Type 0 where
  pub own : List CStruct
  pub behind : now ≡ made ++ own
  pub searched : AreSearchedTo (length made) before own after
