use Rattle.std.proofs.Common.{◌≡◌, ◌++◌, map}
use Rattle.rt_table.specs.Table.{new_row}
use Rattle.rt_table.specs.Inside.Told.{context_of}
use Rattle.rt_table.proofs.context.Context.push_instance.Given as goal

abbrev pub invariant-loop-line : goal.invariant-loop-line
invariant-loop-line l = l.rows ≡ l.initial.rows ++ map (new_row (context_of l.self) l.site l.call l.labels.ports) l.yielded
