use Rattle.rt_track.proofs.Visiting.{IsSolving, left_to_do}
use Rattle.rt_track.proofs.solve.solve.Given as goal

abbrev pub invariant-loop-node : goal.invariant-loop-node
invariant-loop-node l = IsSolving l.nodes l.states.items l.work.items

abbrev pub decreases-loop-node : goal.decreases-loop-node
decreases-loop-node l = left_to_do l.readers.items l.states.items l.work.items
