use Rattle.std.proofs.Common.{◌≡◌, take}
use Rattle.rt_body.specs.Readings.{edges_from}
use Rattle.rt_body.proofs.numbers.edges.Given as goal

abbrev pub invariant-loop-number : goal.invariant-loop-number
invariant-loop-number l = l.edges ≡ edges_from l.places 0 (take l.number l.sites)
