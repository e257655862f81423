use Rattle.std.proofs.Common.{take}
use Rattle.std.specs.BTreeSet.{contains}
use Rattle.std.specs.Ordering.{nat_cmp}
use Rattle.rt_trim.specs.Trimming.{AreOfLines, IsSpoiledBy}
use Rattle.rt_trim.proofs.idle.all_spoiled.Given as goal

abbrev pub invariant-loop-line : goal.invariant-loop-line
invariant-loop-line l =
    AreOfLines (IsSpoiledBy l.lines l.users.entries) (take l.line-index l.lines) (contains nat_cmp l.found)
