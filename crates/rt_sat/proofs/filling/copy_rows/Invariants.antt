use Rattle.std.proofs.Common.{ℕ}
use Rattle.rt_sat.specs.Hints.{AreSameMembers, IsFamily}
use Rattle.rt_sat.proofs.filling.copy_rows.Given as goal

abbrev pub invariant-loop-place : goal.invariant-loop-place
invariant-loop-place l = record {
  same : AreSameMembers l.fn.family l.family;
  family : (count : ℕ) → IsFamily count l.fn.family → IsFamily count l.family;
}
