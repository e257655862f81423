use Rattle.std.proofs.Common.{◌≡◌, ◌++◌}
use Rattle.rt_table.specs.Table.{told}
use Rattle.rt_table.proofs.calls.push_told.Given as goal

abbrev pub invariant-loop-row : goal.invariant-loop-row
invariant-loop-row l = l.items.items ≡ l.initial.items.items ++ told l.yielded
