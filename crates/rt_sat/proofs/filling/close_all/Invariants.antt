use Rattle.std.proofs.Common.{ℕ}
use Rattle.rt_sat.specs.Hints.{AreSameMembers, IsFamily}
use Rattle.rt_sat.proofs.filling.close_all.Given as goal

abbrev pub invariant-loop-class : goal.invariant-loop-class
invariant-loop-class l = record {
  same : AreSameMembers l.fn.family l.family;
  family : (count : ℕ) → IsFamily count l.fn.family → IsFamily count l.family;
}
