use Rattle.std.proofs.Common.{◌≡◌, ℕ, ◌++◌, length, reverse}
use Rattle.rt_table.specs.Table.{told}
use Rattle.rt_table.proofs.merges.put_rows.Given as goal

abbrev pub invariant-loop-row : goal.invariant-loop-row
invariant-loop-row l = l.pending.items ++ reverse (told l.rows.items) ≡ l.fn.pending.items ++ reverse (told l.fn.rows)

abbrev pub decreases-loop-row : goal.decreases-loop-row
decreases-loop-row l = length l.rows.items
