use Rattle.std.proofs.Common.{◌≡◌, take}
use Rattle.rt_lines.specs.Numbering.{existentials}
use Rattle.rt_lines.proofs.numbering.existentials.Given as goal

abbrev pub invariant-loop-line : goal.invariant-loop-line
invariant-loop-line l = l.found.keys ≡ existentials (take l.line-index l.lines)
