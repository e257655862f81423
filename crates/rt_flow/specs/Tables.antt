-- Which list of definitions reaches each block, for each class of locations.
use Rattle.std.specs.Prelude.{◌≡◌, ◌+◌, ◌<◌, ◌≤◌, ◌↔◌, ℕ, List, [], Option, AllPairs, Contains, length, slice_index, slice_index_or}
use Rattle.rt_flow.specs.declared.def.Def.{Def}
use Rattle.rt_flow.specs.Bodies.{Body, IsBody, Precedes}
use Rattle.rt_flow.specs.Blocks.{AreBlocks, AreTargets, AreLasts, Arrives}

-- the blocks and their targets are those of some body
abbrev pub AreOfBody : List ℕ → List ℕ → List (List ℕ) → Type 0
AreOfBody block firsts targets = (body : Body) × IsBody body × AreBlocks body block firsts × AreTargets body block firsts targets

-- lists that had a number keep it
pub record Grows {X : Type 0} (old new : List (List X)) : Type 0 where
  pub longer : length old ≤ length new
  pub kept : (n : ℕ) → n < length old → slice_index_or new n [] ≡ slice_index_or old n []

-- each row is the list of its number
pub record AreNumbers (rows sets : List (List Def)) (numbers : List ℕ) : Type 0 where
  pub each : length numbers ≡ length rows
  pub within : (b : ℕ) → b < length rows → slice_index numbers b < length sets
  pub list : (b : ℕ) → b < length rows → slice_index_or sets (slice_index numbers b) [] ≡ slice_index_or rows b []

-- for each block the number of the list, in order, of what arrives at it, where these sites define the location
pub record IsTable (firsts : List ℕ) (targets : List (List ℕ)) (entry : ℕ) (sites : List ℕ) (sets : List (List Def))
    (table : List ℕ) : Type 0 where
  pub each : length table + 1 ≡ length firsts
  pub within : (b : ℕ) → b < length table → slice_index table b < length sets
  pub order : (b : ℕ) → b < length table → AllPairs Precedes (slice_index_or sets (slice_index table b) [])
  pub arriving : (lasts : List (Option ℕ)) × AreLasts firsts sites lasts ×
      ((b : ℕ) (x : Def) → b < length table →
      Contains (slice_index_or sets (slice_index table b) []) x ↔ Arrives targets lasts entry x b)
