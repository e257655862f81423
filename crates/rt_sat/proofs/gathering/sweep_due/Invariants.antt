use Rattle.std.proofs.Common.{◌≡◌, ℕ, Bool, List, length}
use Rattle.rt_lines.specs.declared.variable.Dtv.{Dtv}
use Rattle.rt_sat.specs.declared.state.Edge.{Edge}
use Rattle.rt_sat.specs.Hints.{AreSameMembers, IsFamily, IsToldFamily}
use Rattle.rt_sat.proofs.gathering.sweep_due.Given as goal

abbrev pub invariant-loop-class : goal.invariant-loop-class
invariant-loop-class l = record {
  same : AreSameMembers l.fn.family l.family;
  family : (count : ℕ) → IsFamily count l.fn.family → IsFamily count l.family;
  told : (known : List Dtv) (flips : List Bool) (lines : List Edge) → IsToldFamily known flips lines l.fn.family → IsToldFamily known flips lines l.family;
  next : length l.next.items ≡ length l.fn.next.items;
}
