use Rattle.std.proofs.Common.{List, length}
use Rattle.rt_sat.specs.declared.state.Edge.{Edge}
use Rattle.rt_sat.specs.Hints.{AreSameMembers, IsFamily, IsToldFamily}
use Rattle.rt_sat.proofs.gathering.push_apart.Given as goal

abbrev pub invariant-loop-source : goal.invariant-loop-source
invariant-loop-source l = record {
  same : AreSameMembers l.fn.into l.into;
  family : IsFamily (length l.frame.named) l.into;
  told : (lines : List Edge) → IsToldFamily l.frame.named l.frame.flips.items lines l.family → IsToldFamily l.frame.named l.frame.flips.items lines l.fn.into → IsToldFamily l.frame.named l.frame.flips.items lines l.into;
}
