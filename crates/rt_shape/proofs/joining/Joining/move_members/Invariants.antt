use Rattle.std.proofs.Common.{◌≡◌, ℕ, List, [], get_or}
use Rattle.rt_shape.specs.Graphs.{Graph}
use Rattle.rt_shape.specs.Inside.Classes.{Joined}
use Rattle.rt_shape.specs.Inside.Joins.{IsSound, work}
use Rattle.rt_shape.proofs.joining.Joining.move_members.Given as goal

abbrev pub invariant-loop-node : goal.invariant-loop-node
invariant-loop-node l = record {
  moved : l.node-items ≡ get_or l.fn.self.members.items l.from [];
  sound : (graph : Graph) (pairs : List (ℕ × ℕ)) → IsSound graph pairs l.fn.self → Joined graph pairs l.from l.to → IsSound graph pairs l.self;
  work : work l.self ≡ work l.fn.self;
}
