use Rattle.std.proofs.Common.{◌≡◌, List, length}
use Rattle.rt_lines.specs.declared.line.Line.{Line}
use Rattle.rt_sat.specs.declared.increments.Snapshot.{Snapshot}
use Rattle.rt_sat.specs.Increments.{Told}
use Rattle.rt_sure.specs.Inside.Grounds.{IsTold}
use Rattle.rt_sure.proofs.Fating.{DoGo, DoStayTo}
use Rattle.rt_sure.proofs.fate.one_by_one.Given as goal

abbrev pub invariant-loop-i : goal.invariant-loop-i
invariant-loop-i l = record {
  each : length l.fates.items ≡ l.i;
  staying : DoStayTo l.stays l.fates.items l.i;
  going : DoGo l.lines l.stays l.fates.items;
  told : IsTold l.lines l.stays l.i l.growing;
  still : (told : List Line) (base : Snapshot) → Told told base l.fn.growing → Told told base l.growing;
}
