use Rattle.std.proofs.Common.{◌≡◌, map}
use Rattle.rt_lines.specs.Numbering.{deduplicated}
use Rattle.rt_rows.specs.Terms.{lines_by}
use Rattle.rt_rows.proofs.numbering.lists_by.Given as goal

abbrev pub invariant-loop-rows : goal.invariant-loop-rows
invariant-loop-rows l = l.numbered.items ≡ map (λ rows. deduplicated (lines_by l.names.keys rows)) l.yielded
