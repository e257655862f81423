use Rattle.std.proofs.Common.{◌≡◌, Contains, take}
use Rattle.rt_ways.specs.Arcs.{AreMore}
use Rattle.rt_ways.proofs.turning.turn.Given as goal

abbrev pub invariant-loop-other : goal.invariant-loop-other
invariant-loop-other l = AreMore (λ v w. Contains (take l.other-index l.row) v × (w ≡ l.number)) l.fn.back.items l.back.items
