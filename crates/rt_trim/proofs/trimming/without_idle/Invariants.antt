use Rattle.std.proofs.Common.{◌≡◌, not, take}
use Rattle.std.specs.BTreeSet.{contains}
use Rattle.std.specs.Ordering.{nat_cmp}
use Rattle.rt_trim.specs.Idle.{trimmed}
use Rattle.rt_trim.proofs.trimming.without_idle.Given as goal

abbrev pub invariant-loop-line : goal.invariant-loop-line
invariant-loop-line l = l.left ≡ trimmed (λ n. not (contains nat_cmp l.spoiled n)) (take l.line-index l.lines)
