use Rattle.std.proofs.Common.{List}
use Rattle.rt_sat.specs.declared.state.Edge.{Edge}
use Rattle.rt_sat.specs.Hints.{AreEnds}
use Rattle.rt_sat.specs.Inside.Links.{AreBefore, AreBehind, AreSources, AreTargets}
use Rattle.rt_sat.proofs.ends.add_kid.Given as goal

abbrev pub invariant-loop-stand : goal.invariant-loop-stand
invariant-loop-stand l = record {
  ends : AreEnds l.frame.named l.frame.flips.items l.members l.into l.fn.ends.items → AreEnds l.frame.named l.frame.flips.items l.members l.into l.ends.items;
  before : (lines : List Edge) → AreBefore l.frame.named l.frame.flips.items lines l.near → AreSources l.frame.named l.frame.flips.items lines l.fn.ends.items → AreSources l.frame.named l.frame.flips.items lines l.ends.items;
  behind : (lines : List Edge) → AreBehind l.frame.named l.frame.flips.items lines l.near → AreTargets l.frame.named l.frame.flips.items lines l.fn.ends.items → AreTargets l.frame.named l.frame.flips.items lines l.ends.items;
}
