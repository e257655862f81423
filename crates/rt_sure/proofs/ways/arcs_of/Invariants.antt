use Rattle.std.proofs.Common.{◌-◌, [], drop, length, take}
use Rattle.rt_sure.specs.Arcs.{AreArcs}
use Rattle.rt_sure.proofs.ways.arcs_of.Given as goal

abbrev pub invariant-loop-i : goal.invariant-loop-i
invariant-loop-i l = AreArcs l.lines l.i l.table.named [] l.arcs.items

abbrev pub invariant-loop-j : goal.invariant-loop-j
invariant-loop-j l =
    AreArcs l.lines (length l.lines) l.table.named (take (l.j - l.table.lines) (drop l.table.lines l.table.edges.items)) l.arcs.items
