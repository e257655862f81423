use Rattle.std.proofs.Common.{take}
use Rattle.std.specs.BTreeSet.{contains}
use Rattle.std.specs.Ordering.{nat_cmp}
use Rattle.rt_reduce.specs.Inside.Settling.{HaveMissing}
use Rattle.rt_reduce.proofs.settling.have_missing.Given as goal

abbrev pub invariant-loop-line : goal.invariant-loop-line
invariant-loop-line l = HaveMissing (contains nat_cmp l.found) (take l.line-index l.lines) → ⊥
