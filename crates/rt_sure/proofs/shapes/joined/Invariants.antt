use Rattle.std.proofs.Common.{◌≡◌, List, length}
use Rattle.rt_lines.specs.declared.line.Line.{Line}
use Rattle.rt_sure.specs.Fates.{AreSure}
use Rattle.rt_sure.proofs.Shaping.{AreBehind}
use Rattle.rt_sure.proofs.shapes.joined.Given as goal

abbrev pub invariant-loop-i : goal.invariant-loop-i
invariant-loop-i l =
    (sure : List Line) × AreSure l.lines l.stays sure × (length sure ≡ l.count)
    × AreBehind l.lines l.stays sure l.i l.shapes.items
