use Rattle.rt_lines.specs.declared.line.Line.TheVariants.{Low}
use Rattle.rt_outline.specs.Inside.Bounds.{AreBounds}
use Rattle.rt_outline.proofs.bounds.lows.Given as goal

abbrev pub invariant-loop-i : goal.invariant-loop-i
invariant-loop-i l = AreBounds Low l.lines l.i l.named l.bounds.items
