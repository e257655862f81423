use Rattle.rt_outline.specs.Accesses.{AreAdded}
use Rattle.rt_outline.proofs.accessing.add_fronts.Given as goal

abbrev pub invariant-loop-label : goal.invariant-loop-label
invariant-loop-label l = AreAdded l.shape l.fn.all.items l.all.items
