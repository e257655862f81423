use Rattle.std.proofs.Common.{◌≡◌, ◌++◌, length}
use Rattle.rt_erase.specs.Rows.{kept_from}
use Rattle.rt_erase.proofs.sorting.keep.Given as goal

abbrev pub invariant-loop-row : goal.invariant-loop-row
invariant-loop-row l = l.rows.items ++ kept_from l.end l.sorted ≡ kept_from 0 l.fn.sorted

abbrev pub decreases-loop-row : goal.decreases-loop-row
decreases-loop-row l = length l.sorted
