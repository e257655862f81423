use Rattle.std.proofs.Common.{◌≡◌, ℕ, Bool, List, length}
use Rattle.rt_lines.specs.declared.variable.Dtv.{Dtv}
use Rattle.rt_sat.specs.declared.state.Edge.{Edge}
use Rattle.rt_sat.specs.Inside.Links.{AreLinked, AreReady}
use Rattle.rt_sat.specs.Hints.{AreSameMembers, IsFamily, IsToldFamily}
use Rattle.rt_sat.proofs.gathering.push_due.Given as goal

abbrev pub invariant-loop-ready : goal.invariant-loop-ready
invariant-loop-ready l = record {
  same : AreSameMembers l.fn.family l.family;
  family : (count : ℕ) → IsFamily count l.fn.family → IsFamily count l.family;
  told : (known : List Dtv) (flips : List Bool) (lines : List Edge) → AreReady known flips l.fn.family l.kin.links l.kin.ready.items → AreLinked known flips lines l.kin.links → IsToldFamily known flips lines l.fn.family → IsToldFamily known flips lines l.family;
  next : length l.next.items ≡ length l.fn.next.items;
}
