-- Blocks of sites, and where definitions go from block to block.
use Rattle.std.specs.Prelude.{◌≡◌, ◌+◌, ◌<◌, ◌≤◌, ◌⊎◌, ℕ, List, [], ◌∷◌, Option, Some, None, MatchOption, Contains, length, slice_index}
use Rattle.std.specs.Prelude.{slice_index_or}
use Rattle.rt_flow.specs.declared.def.Def.{Def}
use Rattle.rt_flow.specs.declared.def.Def.TheVariants.{Entry, At}
use Rattle.rt_flow.specs.Bodies.{Body, Steps}

-- a site other than the entry, to which one edge leads, from the site before it, of which that is the one edge
pub record IsJoined (body : Body) (t : ℕ) : Type 0 where
  pub not_entry : t ≡ body.entry → ⊥
  pub after : (s : ℕ) × (s + 1 ≡ t) × Steps body s t
  pub only : (a b : ℕ) → Steps body a b → (a + 1 ≡ t) ⊎ (b ≡ t) → (a + 1 ≡ t) × (b ≡ t)

-- the number of each site's block, and the first site of each block: sites of one block follow each other, and each but the
-- first is joined to the one before; behind the last block stands the number of sites
pub record AreBlocks (body : Body) (block firsts : List ℕ) : Type 0 where
  pub each : length block ≡ body.sites
  pub within : (s : ℕ) → s < body.sites → slice_index block s + 1 < length firsts
  pub ascending : (b : ℕ) → b + 1 < length firsts → slice_index firsts b ≤ slice_index firsts (b + 1)
  pub begin : (s : ℕ) → s < body.sites → (slice_index firsts (slice_index block s) ≡ s) ⊎
      (IsJoined body s × ((p : ℕ) × (p + 1 ≡ s) × (slice_index block p ≡ slice_index block s)))
  pub last : (s : ℕ) → s < body.sites → (slice_index firsts (slice_index block s + 1) ≡ s + 1) ⊎
      ((s + 1 < body.sites) × (slice_index block (s + 1) ≡ slice_index block s))

-- for each block those to whose first site one of its sites has an edge
pub record AreTargets (body : Body) (block firsts : List ℕ) (targets : List (List ℕ)) : Type 0 where
  pub each : length targets + 1 ≡ length firsts
  pub all : (s t : ℕ) → Steps body s t → slice_index firsts (slice_index block t) ≡ t →
      Contains (slice_index_or targets (slice_index block s) []) (slice_index block t)
  pub only : (b c : ℕ) → Contains (slice_index_or targets b []) c →
      (s : ℕ) × (t : ℕ) × Steps body s t × (slice_index block s ≡ b) ×
      (slice_index block t ≡ c) × (slice_index firsts c ≡ t)

-- none of the sites is in a range
abbrev pub NoneWithin : List ℕ → ℕ → ℕ → Type 0
NoneWithin sites from end = (k : ℕ) → Contains sites k → from ≤ k → k < end → ⊥

-- the last of the sites in a range
pub record IsLastWithin (sites : List ℕ) (from end d : ℕ) : Type 0 where
  pub there : Contains sites d
  pub within : (from ≤ d) × (d < end)
  pub later : NoneWithin sites (d + 1) end

-- the last of the sites in a range, or none
abbrev pub IsLastOf : List ℕ → ℕ → ℕ → Option ℕ → Type 0
IsLastOf sites from end last = MatchOption last (NoneWithin sites from end) (λ d. IsLastWithin sites from end d)

-- the last definition of a location in each block, where these sites define it
pub record AreLasts (firsts sites : List ℕ) (lasts : List (Option ℕ)) : Type 0 where
  pub each : length lasts + 1 ≡ length firsts
  pub last : (b : ℕ) → b + 1 < length firsts →
      IsLastOf sites (slice_index firsts b) (slice_index firsts (b + 1)) (slice_index_or lasts b None)

-- where one comes from some blocks through blocks without a definition
pub data Run (targets : List (List ℕ)) (lasts : List (Option ℕ)) (starts : List ℕ) : ℕ → Type 0 where
  begins : {b : ℕ} → Contains starts b → Run targets lasts starts b
  goes : {b c : ℕ} → Run targets lasts starts b → slice_index_or lasts b None ≡ None →
      Contains (slice_index_or targets b []) c →
      Run targets lasts starts c

-- the definition reaches the first site of the block: Entry from the entry's block, that of a site from the targets of the
-- block in which it is the last one
abbrev pub Arrives : List (List ℕ) → List (Option ℕ) → ℕ → Def → ℕ → Type 0
Arrives targets lasts entry Entry b = Run targets lasts (entry ∷ []) b
Arrives targets lasts entry (At d) b = (a : ℕ) × (slice_index_or lasts a None ≡ Some d) ×
    Run targets lasts (slice_index_or targets a []) b
