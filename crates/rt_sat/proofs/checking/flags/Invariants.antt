use Rattle.std.proofs.Common.{◌≡◌, List, length}
use Rattle.rt_sat.specs.declared.state.Edge.{Edge}
use Rattle.rt_sat.specs.Inside.Checks.{AreComplete, AreWalked}
use Rattle.rt_sat.specs.Pushes.{AreDone}
use Rattle.rt_sat.proofs.checking.flags.Given as goal

abbrev pub invariant-loop-number : goal.invariant-loop-number
invariant-loop-number l = record {
  long : length l.done.items ≡ l.number;
  done : (edges more : List Edge) → AreComplete l.ways edges → AreWalked l.pushed more →
      AreDone l.frame.named l.frame.flips.items l.frame.matters.items edges more l.done.items;
}
