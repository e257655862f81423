use Rattle.std.proofs.Common.{◌≡◌, ℕ, ◌+◌, ◌<◌, ◌≤◌, false}
use Rattle.rt_grid.specs.Tables.{count_at}
use Rattle.rt_sat.proofs.complete.is_relaxed.Given as goal

abbrev pub invariant-loop-j : goal.invariant-loop-j
invariant-loop-j l = l.bad ≡ false → (k : ℕ) → k < l.j → count_at l.by k < 255 →
    (count_at l.row k < 255) × (count_at l.row k ≤ l.count + count_at l.by k)
