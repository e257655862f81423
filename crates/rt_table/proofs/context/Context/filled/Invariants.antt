use Rattle.std.proofs.Common.{◌≡◌}
use Rattle.rt_table.specs.Table.{filled, instance_rows}
use Rattle.rt_table.specs.Inside.Told.{context_of}
use Rattle.rt_table.proofs.context.Context.filled.Given as goal

abbrev pub invariant-loop-item : goal.invariant-loop-item
invariant-loop-item l = l.rows ≡ filled (instance_rows (context_of l.self)) l.yielded
