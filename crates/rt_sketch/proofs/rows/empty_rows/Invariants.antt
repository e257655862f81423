use Rattle.std.proofs.Common.{◌≡◌, ◌≤◌, ◌-◌, All, [], length}
use Rattle.rt_sketch.proofs.rows.empty_rows.Given as goal

abbrev pub invariant-loop-alloc : goal.invariant-loop-alloc
invariant-loop-alloc l = record {
  few : length l.rows.items ≤ l.count;
  empty : All (λ r. r.keys ≡ []) l.rows.items;
}

abbrev pub decreases-loop-alloc : goal.decreases-loop-alloc
decreases-loop-alloc l = l.count - length l.rows.items
