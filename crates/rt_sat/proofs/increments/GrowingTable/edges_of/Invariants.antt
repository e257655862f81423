use Rattle.rt_sat.specs.Increments.{named_of, AreEdgesAmong}
use Rattle.rt_sat.proofs.increments.GrowingTable.edges_of.Given as goal

abbrev pub invariant-loop-line : goal.invariant-loop-line
invariant-loop-line l = AreEdgesAmong l.lines (named_of l.self) l.edges.items
