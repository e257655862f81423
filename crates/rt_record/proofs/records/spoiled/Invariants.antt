use Rattle.std.proofs.Common.{take}
use Rattle.std.specs.BTreeSet.{contains}
use Rattle.std.specs.Ordering.{nat_cmp}
use Rattle.rt_record.proofs.Sparing.{AreSpared}
use Rattle.rt_record.proofs.records.spoiled.Given as goal

abbrev pub invariant-loop-line : goal.invariant-loop-line
invariant-loop-line l = AreSpared (take l.line-index l.lines) (contains nat_cmp l.found)
