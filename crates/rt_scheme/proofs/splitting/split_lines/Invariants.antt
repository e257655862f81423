use Rattle.std.proofs.Common.{◌≡◌, map, take}
use Rattle.rt_scheme.specs.SplitExistentials.{is_other, existential_for}
use Rattle.rt_scheme.specs.Splitting.{split_line}
use Rattle.rt_scheme.proofs.splitting.split_lines.Given as goal

abbrev pub invariant-loop-line : goal.invariant-loop-line
invariant-loop-line l =
    l.made.items ≡ map (split_line (is_other l.split.own) (existential_for l.split.first l.split.found.keys)) (take l.line-index l.lines)
