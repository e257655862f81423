use Rattle.std.proofs.Common.{[], ◌∷◌, ◌++◌, sym, ap, ◌∙◌}
use Rattle.rt_polar.specs.Inside.Places.{lines_of}
use Rattle.rt_polar.proofs.Placing.{lines_of-append}
use Rattle.rt_polar.proofs.putting_away.gathered.Goals as goal

pub loop-slot-preserved : goal.loop-slot-preserved
loop-slot-preserved c = c.in_ok-push_line.ensures ∙ ap (λ ls. ls ++ lines_of (c.in-Some.slot ∷ [])) c.loop-slot.invariant ∙ sym (lines_of-append c.loop-slot.yielded (c.in-Some.slot ∷ []))
