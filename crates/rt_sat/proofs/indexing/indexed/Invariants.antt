use Rattle.std.proofs.Common.{take}
use Rattle.rt_sat.specs.Searches.{IsIndexed}
use Rattle.rt_sat.proofs.indexing.indexed.Given as goal

abbrev pub invariant-loop-i : goal.invariant-loop-i
invariant-loop-i l = IsIndexed (take l.i l.edges) l.out.items
