use Rattle.std.proofs.Common.{ℕ, List}
use Rattle.rt_shape.specs.Inside.Joins.{IsSound}
use Rattle.rt_shape.proofs.joining.Joining.enter_edges.Given as goal

abbrev pub invariant-loop-i : goal.invariant-loop-i
invariant-loop-i l = (pairs : List (ℕ × ℕ)) → IsSound l.tree pairs l.fn.self → IsSound l.tree pairs l.self
