use Rattle.std.proofs.Common.{◌≡◌, ◌++◌, map, take}
use Rattle.rt_body.specs.Readings.{number_at}
use Rattle.rt_body.proofs.numbers.add_edges.Given as goal

abbrev pub invariant-loop-to : goal.invariant-loop-to
invariant-loop-to l = l.edges ≡ l.fn.edges ++ map (λ to. (l.from, number_at l.places to)) (take l.to-index l.next)
