use Rattle.std.proofs.Common.{ℕ, Bool, List, Contains}
use Rattle.rt_lines.specs.declared.variable.Dtv.{Dtv}
use Rattle.rt_sat.specs.declared.state.Edge.{Edge}
use Rattle.rt_sat.specs.Inside.Checks.{AreWalked}
use Rattle.rt_sat.specs.Hints.{AreSameMembers, IsFamily, IsToldFamily}
use Rattle.rt_sat.proofs.hints.enter_lines.Given as goal

abbrev pub invariant-loop-edge : goal.invariant-loop-edge
invariant-loop-edge l = record {
  same : AreSameMembers l.fn.family l.family;
  family : (count : ℕ) → IsFamily count l.fn.family → IsFamily count l.family;
  told : (known : List Dtv) (flips : List Bool) → IsToldFamily known flips l.lines l.fn.family → IsToldFamily known flips l.lines l.family;
  among : (known : List Dtv) (flips : List Bool) (edges : List Edge) → ((e : Edge) → Contains l.lines e → Contains edges e) →
      IsToldFamily known flips edges l.fn.family → IsToldFamily known flips edges l.family;
  walked : (edges : List Edge) → ((e : Edge) → Contains l.lines e → Contains edges e) → AreWalked l.fn.family edges →
      AreWalked l.family edges;
}
