use Rattle.rt_outline.specs.Together.{AreGroupNumbers}
use Rattle.rt_outline.proofs.grouping.numbers_of.Given as goal

abbrev pub invariant-loop-k : goal.invariant-loop-k
invariant-loop-k l = AreGroupNumbers l.count l.groups l.k l.numbers.items
