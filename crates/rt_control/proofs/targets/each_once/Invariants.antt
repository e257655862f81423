use Rattle.std.proofs.Common.{◌≡◌, [], drop}
use Rattle.rt_control.specs.Tables.{with_places}
use Rattle.rt_control.proofs.Once.{HasSame}
use Rattle.rt_control.proofs.targets.each_once.Given as goal

abbrev pub invariant-loop-place : goal.invariant-loop-place
invariant-loop-place l = record {
  same : HasSame l.seen l.once.items;
  rest : with_places l.once.items (drop l.place-index l.places) ≡ with_places [] l.places;
}
