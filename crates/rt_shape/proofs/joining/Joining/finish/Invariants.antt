use Rattle.std.proofs.Common.{ℕ, List}
use Rattle.rt_shape.specs.Graphs.{Graph}
use Rattle.rt_shape.specs.Inside.Joins.{IsSound, work}
use Rattle.rt_shape.proofs.joining.Joining.finish.Given as goal

abbrev pub invariant-loop-i : goal.invariant-loop-i
invariant-loop-i l = (graph : Graph) (pairs : List (ℕ × ℕ)) → IsSound graph pairs l.fn.self → IsSound graph pairs l.self

abbrev pub decreases-loop-i : goal.decreases-loop-i
decreases-loop-i l = work l.self
