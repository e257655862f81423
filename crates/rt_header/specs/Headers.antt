-- The header of sketches.
use Rattle.std.specs.Prelude.{◌≡◌, ℕ, ◌<◌, Contains, Option, Some, List, map, length}
use Rattle.std.specs.Option.{option_map, option_and_then}
use Rattle.rt_lattice.specs.Lattices.{NamedOrder, IsBelow, size_of}
use Rattle.rt_lattice.specs.Bounds.{IsTop, IsBottom}
use Rattle.rt_tree.specs.Trees.{Nodes}
use Rattle.rt_cdecl.specs.declared.declarations.Decls.{Decls}
use Rattle.rt_cdecl.specs.GoodDecls.{function_numbers}
use Rattle.rt_cdecl.specs.HeaderWords.{HeaderWord, Letter, OfStruct, scalar_of, after_all, port_type, function_of, word_in}
use Rattle.rt_header.specs.Erased.{word_in as erased_word}
use Rattle.rt_header.specs.Met.{IsFirstMet}

-- what letters lead to from what a pointer to a struct leads to: whether they are admitted, and the scalar name
abbrev pub tail_in : Decls → ℕ → List Letter → Option (Option (List ℕ))
tail_in decls n letters = option_map scalar_of (after_all decls letters (OfStruct n))

-- a word of a function leads to what a pointer to a struct leads to
pub record IsPointedTo (decls : Decls) (n : ℕ) : Type 0 where
  pub number : ℕ
  pub word : HeaderWord
  pub leads : option_and_then (after_all decls word.letters) (option_and_then (λ f. port_type f word.port) (function_of decls number)) ≡
      Some (OfStruct n)

-- Declarations of the sketches of procedures: they have a function for each procedure, and tell of its header words what its sketch tells.
-- A pointer leads to each struct, two structs differ, and structs are numbered as they are first met.
pub record IsHeaderOf (lattice : NamedOrder) (sketches : List (ℕ × Nodes)) (decls : Decls) : Type 0 where
  pub top : ℕ
  pub is_top : IsTop (IsBelow lattice) (size_of lattice) top
  pub bottom : ℕ
  pub is_bottom : IsBottom (IsBelow lattice) (size_of lattice) bottom
  pub functions : function_numbers decls.functions ≡ map (λ (s : ℕ × Nodes). s.0) sketches
  pub words : (number : ℕ) (tree : Nodes) → Contains sketches (number, tree) → (word : HeaderWord) →
      word_in decls number word ≡ erased_word lattice.names top bottom tree word
  pub reached : (n : ℕ) → n < length decls.structs → IsPointedTo decls n
  pub apart : (m n : ℕ) → m < length decls.structs → n < length decls.structs →
      ((letters : List Letter) → tail_in decls m letters ≡ tail_in decls n letters) → m ≡ n
  pub met : IsFirstMet decls
