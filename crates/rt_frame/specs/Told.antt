-- What a frame tells.
use Rattle.std.specs.Prelude.{ℕ, ℤ, nat_lt, List, [], if◌then◌else◌}
use Rattle.rt_flow.specs.declared.def.Def.{Def}
use Rattle.rt_flow.specs.declared.reach.Reach.{Reach}
use Rattle.rt_flow.specs.Reaching.{sites_of}
use Rattle.rt_flow.specs.Sources.{defs_in}
use Rattle.rt_frame.specs.declared.frame.Frame.{Frame}
use Rattle.rt_frame.specs.Frames.{Layout, Frame as FrameFacts}

-- where its objects begin, and where registers are saved
abbrev pub layout_of : Frame → Layout
layout_of frame = record { taken = frame.taken; saved = frame.saved }

-- the definitions of a location that reach a site; none where there is no such site
unfoldable pub reaching_site : Reach → ℕ → ℤ → List Def
reaching_site reach site loc = if nat_lt site (sites_of reach) then defs_in reach site loc else []

-- what is known by a frame
abbrev pub frame_of : Frame → FrameFacts
frame_of frame = record { layout = layout_of frame; reaching = λ site loc. reaching_site frame.reach site loc }

-- how many sites its procedure has
abbrev pub frame_sites : Frame → ℕ
frame_sites frame = sites_of frame.reach
