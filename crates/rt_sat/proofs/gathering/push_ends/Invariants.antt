use Rattle.std.proofs.Common.{◌≡◌, ℕ, Bool, List, length}
use Rattle.rt_lines.specs.declared.variable.Dtv.{Dtv}
use Rattle.rt_sat.specs.declared.state.Edge.{Edge}
use Rattle.rt_sat.specs.Inside.Links.{AreEndsOf, AreSources, AreTargets}
use Rattle.rt_sat.specs.Hints.{members_of, AreSameMembers, IsFamily, IsToldFamily}
use Rattle.rt_sat.proofs.gathering.push_ends.Given as goal

abbrev pub invariant-loop-source : goal.invariant-loop-source
invariant-loop-source l = record {
  same : AreSameMembers l.fn.family l.family;
  family : (count : ℕ) → IsFamily count l.fn.family → IsFamily count l.family;
  told : (known : List Dtv) (flips : List Bool) (lines : List Edge) → AreEndsOf known flips (members_of l.fn.family l.class) l.fn.family l.sources l.targets → AreSources known flips lines l.sources → AreTargets known flips lines l.targets →
      IsToldFamily known flips lines l.fn.family → IsToldFamily known flips lines l.family;
  next : length l.next.items ≡ length l.fn.next.items;
}
