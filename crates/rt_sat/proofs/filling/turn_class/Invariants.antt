use Rattle.std.proofs.Common.{ℕ}
use Rattle.rt_sat.specs.Hints.{AreSameMembers, IsFamily}
use Rattle.rt_sat.proofs.filling.turn_class.Given as goal

abbrev pub invariant-loop-index : goal.invariant-loop-index
invariant-loop-index l = record {
  same : AreSameMembers l.fn.family l.family;
  family : (count : ℕ) → IsFamily count l.fn.family → IsFamily count l.family;
}
