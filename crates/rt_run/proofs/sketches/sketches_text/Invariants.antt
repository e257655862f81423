use Rattle.rt_run.proofs.Sketching.{AreDrawn}
use Rattle.rt_run.proofs.sketches.sketches_text.Given as goal

abbrev pub invariant-loop-place : goal.invariant-loop-place
invariant-loop-place l = AreDrawn l.analysis l.place l.text.items
