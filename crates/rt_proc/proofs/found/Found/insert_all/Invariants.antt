use Rattle.std.proofs.Common.{◌≡◌, drop}
use Rattle.rt_control.specs.Tables.{with_places}
use Rattle.rt_proc.specs.Inside.Founds.{HasFound}
use Rattle.rt_proc.proofs.found.Found.insert_all.Given as goal

abbrev pub invariant-loop-place : goal.invariant-loop-place
invariant-loop-place l = record {
  same : HasFound l.self;
  rest : with_places l.self.places.items (drop l.place-index l.places) ≡ with_places l.fn.self.places.items l.places;
}
