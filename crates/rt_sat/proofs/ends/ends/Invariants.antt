use Rattle.std.proofs.Common.{List}
use Rattle.rt_sat.specs.declared.state.Edge.{Edge}
use Rattle.rt_sat.specs.Hints.{AreEnds}
use Rattle.rt_sat.specs.Inside.Links.{AreBefore, AreBehind, AreSources, AreTargets}
use Rattle.rt_sat.proofs.ends.ends.Given as goal

abbrev pub invariant-loop-kid : goal.invariant-loop-kid
invariant-loop-kid l = record {
  ends : AreEnds l.frame.named l.frame.flips.items l.members l.into l.ends.items;
  before : (lines : List Edge) → AreBefore l.frame.named l.frame.flips.items lines l.near → AreSources l.frame.named l.frame.flips.items lines l.ends.items;
  behind : (lines : List Edge) → AreBehind l.frame.named l.frame.flips.items lines l.near → AreTargets l.frame.named l.frame.flips.items lines l.ends.items;
}

abbrev pub invariant-loop-turned : goal.invariant-loop-turned
invariant-loop-turned l = record {
  ends : AreEnds l.frame.named l.frame.flips.items l.members l.into l.ends.items;
  before : (lines : List Edge) → AreBefore l.frame.named l.frame.flips.items lines l.near → AreSources l.frame.named l.frame.flips.items lines l.ends.items;
  behind : (lines : List Edge) → AreBehind l.frame.named l.frame.flips.items lines l.near → AreTargets l.frame.named l.frame.flips.items lines l.ends.items;
}
