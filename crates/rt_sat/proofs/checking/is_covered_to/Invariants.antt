use Rattle.std.proofs.Common.{ℕ, ◌<◌, List, get_or}
use Rattle.rt_sat.specs.declared.state.Edge.{Edge}
use Rattle.rt_sat.specs.Inside.Checks.{AreWalked}
use Rattle.rt_sat.specs.Inside.Flags.{IsCoveredAt}
use Rattle.rt_sat.specs.Pushes.{asked_of}
use Rattle.rt_sat.proofs.checking.is_covered_to.Given as goal

abbrev pub invariant-loop-end : goal.invariant-loop-end
invariant-loop-end l = (more : List Edge) → AreWalked l.pushed more → (i : ℕ) → i < l.end-index →
    IsCoveredAt l.frame.named l.target.flip (asked_of l.target.matters) more l.target.child l.target.letter l.other l.count
    (get_or l.end-items i 0)
