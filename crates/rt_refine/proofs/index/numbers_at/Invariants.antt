use Rattle.std.proofs.Common.{◌≡◌, ◌≤◌, ◌-◌}
use Rattle.rt_polar.specs.Index.{has}
use Rattle.rt_refine.specs.Numbers.{numbers_below}
use Rattle.rt_refine.proofs.index.numbers_at.Given as goal

abbrev pub invariant-loop-from : goal.invariant-loop-from
invariant-loop-from l = record {
  within : l.from ≤ l.bound;
  so_far : l.numbers.items ≡ numbers_below (has l.index l.existential) l.from;
}

abbrev pub decreases-loop-from : goal.decreases-loop-from
decreases-loop-from l = l.bound - l.from
