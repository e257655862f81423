use Rattle.std.proofs.Common.{◌≡◌, ◌++◌, take}
use Rattle.rt_table.specs.Table.{stack_arguments}
use Rattle.rt_table.proofs.labels.push_words.Given as goal

abbrev pub invariant-loop-offset : goal.invariant-loop-offset
invariant-loop-offset l = l.labels.items ≡ l.initial.labels.items ++ stack_arguments (take l.offset-index l.offsets)
