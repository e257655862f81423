-- What a `Reach` tells, and of which body.
use Rattle.std.specs.Prelude.{◌≡◌, ◌<◌, ℕ, List, [], length, slice_index, slice_index_or}
use Rattle.rt_flow.specs.declared.reach.Reach.{Reach}
use Rattle.rt_flow.specs.Bodies.{Body, IsBody}
use Rattle.rt_flow.specs.Blocks.{AreBlocks, AreTargets}
use Rattle.rt_flow.specs.Locations.{AreClasses}
use Rattle.rt_flow.specs.Tables.{IsTable}

-- how many sites it tells of
abbrev pub sites_of : Reach → ℕ
sites_of reach = length reach.blocks.block.items

-- its tables are those of the body
pub record IsReachOf (body : Body) (reach : Reach) : Type 0 where
  pub is_body : IsBody body
  pub sites : sites_of reach ≡ body.sites
  pub are_blocks : AreBlocks body reach.blocks.block.items reach.blocks.firsts.items
  pub are_classes : AreClasses body reach.locations.known.entries reach.locations.none reach.classes
  pub are_tables : (targets : List (List ℕ)) × AreTargets body reach.blocks.block.items reach.blocks.firsts.items targets
      × ((c : ℕ) → c < length reach.classes → IsTable reach.blocks.firsts.items targets
      (slice_index reach.blocks.block.items body.entry) (slice_index_or reach.classes c []) reach.sets
      (slice_index_or reach.tables.items c []))
