use Rattle.std.proofs.Common.{◌≡◌, All}
use Rattle.rt_lines.specs.Words.{IsLabel}
use Rattle.rt_table.proofs.Labelling.{first_arguments}
use Rattle.rt_table.proofs.labels.register_arguments.Given as goal

abbrev pub invariant-loop-number : goal.invariant-loop-number
invariant-loop-number l = record { labels : l.labels.items ≡ first_arguments l.call l.number; good : All IsLabel l.labels.items }
