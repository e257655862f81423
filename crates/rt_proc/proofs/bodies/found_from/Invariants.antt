use Rattle.std.proofs.Common.{◌≡◌, ◌-◌}
use Rattle.rt_link.specs.declared.place.Place.{Place}
use Rattle.rt_proc.specs.Bodies.{StepsTo}
use Rattle.rt_proc.specs.Inside.Founds.{HasFound}
use Rattle.rt_proc.proofs.Walking.{IsWalking}
use Rattle.rt_proc.proofs.bodies.found_from.Given as goal

abbrev pub invariant-loop-index : goal.invariant-loop-index
invariant-loop-index l = record {
  walking : IsWalking (λ (p : Place). p ≡ l.own) (StepsTo l.code.source.object.now l.code.source.ends.now l.own) (λ (p : Place). Unit {0}) l.found.places.items l.index;
  kept : HasFound l.found;
}

abbrev pub decreases-loop-index : goal.decreases-loop-index
decreases-loop-index l = 18446744073709551616 - l.index
