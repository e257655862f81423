use Rattle.std.proofs.Common.{◌≡◌, ◌+◌, ◌<◌, ◌≤◌, ◌⊎◌, ℕ, length}
use Rattle.rt_grid.specs.Tables.{count_at}
use Rattle.rt_grid.proofs.rows.relax.Given as goal

abbrev pub invariant-loop-j : goal.invariant-loop-j
invariant-loop-j l = record {
  each : length l.row ≡ length l.fn.row;
  counts : (k : ℕ) → k < l.j → count_at l.row k < 255 → (count_at l.row k ≡ count_at l.fn.row k) ⊎ ((count_at l.by k < 255) × (count_at l.row k ≡ l.count + count_at l.by k));
  rest : (k : ℕ) → l.j ≤ k → count_at l.row k ≡ count_at l.fn.row k;
}
