use Rattle.std.proofs.Common.{◌↔◌, Contains, take}
use Rattle.rt_link.specs.declared.place.Place.{Place}
use Rattle.rt_proc.specs.Entries.{IsCalledFrom}
use Rattle.rt_proc.proofs.entries.called_from_any.Given as goal

abbrev pub invariant-loop-place : goal.invariant-loop-place
invariant-loop-place l = (to : Place) → Contains l.called.items to ↔ IsCalledFrom l.code.source.object.now l.code.source.ends.now (take l.place-index l.places) to
