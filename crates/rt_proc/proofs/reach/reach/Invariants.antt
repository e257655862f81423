use Rattle.std.proofs.Common.{◌-◌, take}
use Rattle.rt_control.specs.Laws.{IsGood}
use Rattle.rt_proc.specs.Entries.{IsFunction, LeadsTo}
use Rattle.rt_proc.specs.Inside.Founds.{HasFound}
use Rattle.rt_proc.proofs.Looking.{AreLooksAt}
use Rattle.rt_proc.proofs.Walking.{IsWalking}
use Rattle.rt_proc.proofs.reach.reach.Given as goal

abbrev pub invariant-loop-index : goal.invariant-loop-index
invariant-loop-index l = record {
  walking : IsWalking (IsFunction l.source.object.now) (LeadsTo l.source.object.now l.source.ends.now) (IsGood l.source.object.now) l.found.places.items l.index;
  looks : AreLooksAt l.source.object.now l.source.ends.now l.looks (take l.index l.found.places.items);
  kept : HasFound l.found;
}

abbrev pub decreases-loop-index : goal.decreases-loop-index
decreases-loop-index l = 18446744073709551616 - l.index
