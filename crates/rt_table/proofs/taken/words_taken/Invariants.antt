use Rattle.rt_body.specs.Told.{reading_of}
use Rattle.rt_frame.specs.Told.{frame_of}
use Rattle.rt_table.proofs.Taking.{AreTaken}
use Rattle.rt_table.proofs.taken.words_taken.Given as goal

abbrev pub invariant-loop-site : goal.invariant-loop-site
invariant-loop-site l = AreTaken (reading_of l.body) (frame_of l.frame) l.site l.taken.keys
