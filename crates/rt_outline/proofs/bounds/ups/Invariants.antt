use Rattle.rt_outline.specs.Inside.Bounds.{AreBounds, upper_bound}
use Rattle.rt_outline.proofs.bounds.ups.Given as goal

abbrev pub invariant-loop-i : goal.invariant-loop-i
invariant-loop-i l = AreBounds upper_bound l.lines l.i l.named l.bounds.items
