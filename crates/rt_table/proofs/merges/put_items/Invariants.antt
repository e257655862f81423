use Rattle.std.proofs.Common.{◌≡◌, ℕ, ◌++◌, length, reverse}
use Rattle.rt_table.proofs.merges.put_items.Given as goal

abbrev pub invariant-loop-item : goal.invariant-loop-item
invariant-loop-item l = l.pending.items ++ reverse l.items.items ≡ l.fn.pending.items ++ reverse l.fn.items.items

abbrev pub decreases-loop-item : goal.decreases-loop-item
decreases-loop-item l = length l.items.items
