use Rattle.std.proofs.Common.{◌≡◌, map, take}
use Rattle.std.specs.BTreeMap.{get}
use Rattle.std.specs.Ordering.{nat_cmp}
use Rattle.rt_lines.specs.Sides.{map_line}
use Rattle.rt_refine.specs.Groups.{class_of}
use Rattle.rt_refine.specs.Refinements.{move}
use Rattle.rt_refine.proofs.moving.move_lines.Given as goal

abbrev pub invariant-loop-line : goal.invariant-loop-line
invariant-loop-line l = l.moved.items ≡ map (map_line (move (class_of (get nat_cmp l.classes)))) (take l.line-index l.lines)
