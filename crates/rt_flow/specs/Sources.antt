-- Where a `Reach` has the definitions of a location that reach a site.
use Rattle.std.specs.Prelude.{◌<◌, ◌&&◌, ℕ, ℤ, List, [], ◌∷◌, Option, Some, None, if◌then◌else◌, max, nat_le, nat_lt, length}
use Rattle.std.specs.Prelude.{slice_index, slice_index_or}
use Rattle.rt_flow.specs.declared.def.Def.{Def}
use Rattle.rt_flow.specs.declared.def.Def.TheVariants.{At}
use Rattle.rt_flow.specs.declared.source.Source.{Source}
use Rattle.rt_flow.specs.declared.source.Source.TheVariants.{Own, Shared}
use Rattle.rt_flow.specs.declared.reach.Reach.{Reach}
use Rattle.rt_flow.specs.Locations.{class_at}
use Rattle.rt_flow.specs.Reaching.{sites_of}

-- the greater of two sites, if there are any
abbrev pub greater_of : Option ℕ → Option ℕ → Option ℕ
greater_of None b = b
greater_of (Some a) None = Some a
greater_of (Some a) (Some b) = Some (max a b)

-- the greatest of sites in a range
abbrev pub last_in : List ℕ → ℕ → ℕ → Option ℕ
last_in [] from end = None
last_in (s ∷ ss) from end = greater_of (if nat_le from s && nat_lt s end then Some s else None) (last_in ss from end)

-- a site's own list, or else the shared one
abbrev pub source_or : Option ℕ → ℕ → Source
source_or (Some d) number = Own d
source_or None number = Shared number

-- how many lists are shared
unfoldable pub shared_count_of : Reach → ℕ
shared_count_of reach = length reach.sets

-- the shared list of a number
unfoldable pub shared_in : Reach → ℕ → List Def
shared_in reach number = slice_index_or reach.sets number []

-- where the list of a site and a location stands: the last definition before the site in its block, or else the block's list
unfoldable pub source_in : Reach → ℕ → ℤ → Source
source_in reach site loc =
    let block = slice_index reach.blocks.block.items site in
    let class = class_at reach.locations.known.entries reach.locations.none loc in
    source_or (last_in (slice_index_or reach.classes class []) (slice_index reach.blocks.firsts.items block) site)
    (slice_index (slice_index_or reach.tables.items class []) block)

-- the list that stands there
abbrev pub list_in : Reach → Source → List Def
list_in reach (Own d) = At d ∷ []
list_in reach (Shared number) = shared_in reach number

-- the list of a site and a location
abbrev pub defs_in : Reach → ℕ → ℤ → List Def
defs_in reach site loc = list_in reach (source_in reach site loc)

-- it is one of the sites, or the number of a shared list
abbrev pub IsSourceIn : Reach → Source → Type 0
IsSourceIn reach (Own d) = d < sites_of reach
IsSourceIn reach (Shared number) = number < shared_count_of reach
