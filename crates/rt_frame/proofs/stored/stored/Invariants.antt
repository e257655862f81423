use Rattle.std.proofs.Common.{◌≡◌, take}
use Rattle.rt_body.specs.Told.{reading_of}
use Rattle.rt_frame.specs.Frames.{frame_definitions_from}
use Rattle.rt_frame.proofs.stored.stored.Given as goal

abbrev pub invariant-loop-site : goal.invariant-loop-site
invariant-loop-site l = l.graph ≡ record (reading_of l.body).body { defs = frame_definitions_from (reading_of l.body) (record { taken = l.taken; saved = l.saved }) 0 (take l.site (reading_of l.body).actions) }
