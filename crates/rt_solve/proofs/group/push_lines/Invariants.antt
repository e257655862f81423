use Rattle.std.proofs.Common.{◌≡◌, ◌++◌, take}
use Rattle.rt_solve.proofs.group.push_lines.Given as goal

abbrev pub invariant-loop-line : goal.invariant-loop-line
invariant-loop-line l = l.all.items ≡ l.initial.all.items ++ take l.line-index l.lines
