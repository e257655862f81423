use Rattle.std.proofs.Common.{Contains, take}
use Rattle.rt_ways.specs.Arcs.{AreMore}
use Rattle.rt_ways.proofs.closing.enter.Given as goal

abbrev pub invariant-loop-pair : goal.invariant-loop-pair
invariant-loop-pair l = AreMore (λ v w. Contains (take l.pair-index l.fresh) (v, w)) l.fn.arcs.items l.arcs.items
