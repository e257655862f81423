use Rattle.rt_outline.specs.Accesses.{AreAdded}
use Rattle.rt_outline.proofs.accessing.add_lines.Given as goal

abbrev pub invariant-loop-line : goal.invariant-loop-line
invariant-loop-line l = AreAdded l.shape l.fn.all.items l.all.items
