use Rattle.std.proofs.Common.{◌≡◌, ℕ, ◌+◌, ◌-◌, List, [], length, get_or}
use Rattle.rt_shape.specs.Graphs.{Graph}
use Rattle.rt_shape.specs.Inside.Classes.{Joined}
use Rattle.rt_shape.specs.Inside.Joins.{IsSound, work}
use Rattle.rt_shape.proofs.joining.Joining.move_letters.Given as goal

abbrev pub invariant-loop-letter : goal.invariant-loop-letter
invariant-loop-letter l = record {
  moved : l.letter-items ≡ get_or l.fn.self.letters.items l.from [];
  sound : (graph : Graph) (pairs : List (ℕ × ℕ)) → IsSound graph pairs l.fn.self → Joined graph pairs l.from l.to → IsSound graph pairs l.self;
  work : work l.self + (length l.letter-items - l.letter-index) ≡ work l.fn.self;
}
