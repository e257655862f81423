use Rattle.std.proofs.Common.{◌≡◌}
use Rattle.rt_rows.specs.Terms.{lines_by}
use Rattle.rt_rows.proofs.numbering.lines_of.Given as goal

abbrev pub invariant-loop-row : goal.invariant-loop-row
invariant-loop-row l = l.lines.items ≡ lines_by l.names.keys l.yielded
