use Rattle.std.proofs.Common.{◌-◌, ◌^◌}
use Rattle.rt_control.proofs.Tabled.{IsTableTo}
use Rattle.rt_control.proofs.table.table_at.Given as goal

abbrev pub invariant-loop-entry : goal.invariant-loop-entry
invariant-loop-entry l = IsTableTo l.object l.fn.start l.place l.entries.items

abbrev pub decreases-loop-entry : goal.decreases-loop-entry
decreases-loop-entry l = 2 ^ 32 - l.place.offset
