use Rattle.std.proofs.Common.{ℕ, ◌≤◌, Contains, length}
use Rattle.rt_components.specs.Inside.Walks.{Rises}
use Rattle.rt_components.proofs.walk.merge.Given as goal

abbrev pub invariant-loop-start : goal.invariant-loop-start
invariant-loop-start l = record {
  rises : Rises l.starts.items;
  only : (s : ℕ) → Contains l.starts.items s → Contains l.fn.starts.items s;
  kept : (s : ℕ) → Contains l.fn.starts.items s → s ≤ l.place → Contains l.starts.items s;
}

abbrev pub decreases-loop-start : goal.decreases-loop-start
decreases-loop-start l = length l.starts.items
