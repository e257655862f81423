use Rattle.std.proofs.Common.{take}
use Rattle.std.specs.BTreeSet.{contains}
use Rattle.std.specs.Ordering.{nat_cmp}
use Rattle.rt_twins.specs.Inside.Leading.{AreOfLines}
use Rattle.rt_reduce.specs.Inside.Settling.{IsUsedBy}
use Rattle.rt_reduce.proofs.settling.used_existentials.Given as goal

abbrev pub invariant-loop-line : goal.invariant-loop-line
invariant-loop-line l = AreOfLines IsUsedBy (take l.line-index l.lines) (contains nat_cmp l.found)
