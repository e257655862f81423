use Rattle.std.proofs.Common.{◌≡◌, take}
use Rattle.rt_lines.specs.FirstFree.{first_free}
use Rattle.rt_lines.proofs.existentials.first_free.Given as goal

abbrev pub invariant-loop-line : goal.invariant-loop-line
invariant-loop-line l = l.first ≡ first_free (take l.line-index l.lines)
