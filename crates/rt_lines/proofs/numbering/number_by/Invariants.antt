use Rattle.std.proofs.Common.{◌≡◌, map, take}
use Rattle.rt_lines.specs.Sides.{map_line, renamed}
use Rattle.rt_lines.specs.Numbering.{placed}
use Rattle.rt_lines.proofs.numbering.number_by.Given as goal

abbrev pub invariant-loop-line : goal.invariant-loop-line
invariant-loop-line l = l.numbered.items ≡ map (map_line (renamed (placed l.found.keys))) (take l.line-index l.line-items)
