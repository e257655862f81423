use Rattle.std.proofs.Common.{◌≡◌, ◌++◌, take}
use Rattle.rt_texts.specs.Texts.{lines_text}
use Rattle.rt_texts.proofs.print.push_lines.Given as goal

abbrev pub invariant-loop-line : goal.invariant-loop-line
invariant-loop-line l = l.out.items ≡ l.fn.out.items ++ lines_text l.names (take l.line-index l.lines)
