-- Definitions in the rows of blocks, one definition after the other.
use Rattle.std.specs.Prelude.{◌≡◌, ◌+◌, ◌<◌, ◌≤◌, ◌⊎◌, ◌↔◌, ◌||◌, Bool, false, if◌then◌else◌, ℕ, List, [], ◌∷◌, ◌++◌, Option, Some, None}
use Rattle.std.specs.Prelude.{AllPairs, Contains, length, slice_index_or, slice_set, sum_by}
use Rattle.rt_flow.specs.declared.def.Def.{Def}
use Rattle.rt_flow.specs.contracts.def.DefPartialEq.TheImpl as the_def
use Rattle.rt_flow.specs.Bodies.{Precedes}
use Rattle.rt_flow.specs.Blocks.{Run, Arrives}

-- two definitions are equal, as `==` computes it
abbrev pub def_eq : Def → Def → Bool
def_eq = (the_def.ghosts).eq

-- a definition is in a row
abbrev pub has_def : Def → List Def → Bool
has_def x [] = false
has_def x (y ∷ ys) = def_eq x y || has_def x ys

-- 1 where a definition isn't in a row
abbrev pub lacks : Def → List Def → ℕ
lacks x row = if has_def x row then 0 else 1

-- how many rows a definition isn't in
abbrev pub rows_without : Def → List (List Def) → ℕ
rows_without x rows = sum_by (lacks x) rows

-- rows to which a definition may be added: each is in order, and has no definition that comes after it
pub record AreReady (x : Def) (rows : List (List Def)) : Type 0 where
  pub order : (b : ℕ) → AllPairs Precedes (slice_index_or rows b [])
  pub upto : (b : ℕ) (y : Def) → Contains (slice_index_or rows b []) y → (y ≡ x) ⊎ Precedes y x

-- a definition was in a block's row, or was added, and the block to those that are still to be left
abbrev pub Marks : Def → ℕ → List (List Def) → List ℕ → List (List Def) → List ℕ → Type 0
Marks x b rows work rows' work' =
    (Contains (slice_index_or rows b []) x × (rows' ≡ rows) × (work' ≡ work))
    ⊎ ((Contains (slice_index_or rows b []) x → ⊥) × (rows' ≡ slice_set rows b (slice_index_or rows b [] ++ x ∷ [])) ×
    (work' ≡ work ++ b ∷ []))

-- the same for each of some blocks
pub record MarksAll (x : Def) (blocks : List ℕ) (rows : List (List Def)) (work : List ℕ) (rows' : List (List Def))
    (work' : List ℕ) : Type 0 where
  pub each : length rows' ≡ length rows
  pub ready : AreReady x rows'
  pub kept : (b : ℕ) (y : Def) → Contains (slice_index_or rows b []) y → Contains (slice_index_or rows' b []) y
  pub only : (b : ℕ) (y : Def) → Contains (slice_index_or rows' b []) y → Contains (slice_index_or rows b []) y ⊎
      ((y ≡ x) × Contains blocks b)
  pub marked : (b : ℕ) → Contains blocks b → Contains (slice_index_or rows' b []) x
  pub work_kept : (b : ℕ) → Contains work b → Contains work' b
  pub work_only : (b : ℕ) → Contains work' b → Contains work b ⊎ Contains blocks b
  pub found : (b : ℕ) → Contains (slice_index_or rows' b []) x → Contains (slice_index_or rows b []) x ⊎ Contains work' b
  pub room : rows_without x rows' + length work' ≤ rows_without x rows + length work

-- a definition was added to the rows of the blocks to which one comes from the starts, and to no other
pub record Spreads (targets : List (List ℕ)) (lasts : List (Option ℕ)) (starts : List ℕ) (x : Def)
    (rows rows' : List (List Def)) : Type 0 where
  pub each : length rows' ≡ length rows
  pub order : (b : ℕ) → AllPairs Precedes (slice_index_or rows' b [])
  pub cases : (b : ℕ) (y : Def) → Contains (slice_index_or rows' b []) y ↔
      (Contains (slice_index_or rows b []) y ⊎ ((y ≡ x) × Run targets lasts starts b))

-- the targets of blocks are blocks
abbrev pub AreWithin : List (List ℕ) → Type 0
AreWithin targets = (b c : ℕ) → Contains (slice_index_or targets b []) c → c < length targets

-- the last definitions rise from block to block
abbrev pub AreAscending : List (Option ℕ) → Type 0
AreAscending lasts = (a b c d : ℕ) → a < b → slice_index_or lasts a None ≡ Some c → slice_index_or lasts b None ≡ Some d → c < d

-- the rows of all blocks: in each, in order, what arrives at it
pub record AreRows (targets : List (List ℕ)) (lasts : List (Option ℕ)) (entry : ℕ) (rows : List (List Def)) : Type 0 where
  pub each : length rows ≡ length targets
  pub order : (b : ℕ) → AllPairs Precedes (slice_index_or rows b [])
  pub arriving : (b : ℕ) (x : Def) → Contains (slice_index_or rows b []) x ↔ Arrives targets lasts entry x b
