use Rattle.rt_outline.proofs.Flagged.{AreClearing}
use Rattle.rt_outline.proofs.found.clear_flags.Given as goal

abbrev pub invariant-loop-number : goal.invariant-loop-number
invariant-loop-number l = AreClearing l.numbers l.flags.items l.number-index
