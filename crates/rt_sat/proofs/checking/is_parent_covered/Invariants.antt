use Rattle.std.proofs.Common.{◌≡◌, ℕ, ◌<◌, List, get_or}
use Rattle.rt_lines.specs.declared.label.Label.{Label}
use Rattle.rt_sat.specs.declared.state.State.{State}
use Rattle.rt_sat.specs.declared.state.Edge.{Edge}
use Rattle.rt_sat.specs.Inside.Checks.{AreComplete, AreWalked}
use Rattle.rt_sat.specs.Pushes.{IsChildOf, IsClosedFrom}
use Rattle.rt_sat.proofs.checking.is_parent_covered.Given as goal

abbrev pub invariant-loop-child : goal.invariant-loop-child
invariant-loop-child l = (edges more : List Edge) → AreComplete l.ways edges → AreWalked l.pushed more → (i : ℕ) → i < l.child-index →
    (child : State) (m : Label) → child.variable ≡ get_or l.child-items i 0 → IsChildOf l.frame.named child l.parent m →
    IsClosedFrom l.frame.named l.frame.flips.items l.frame.matters.items edges more child l.parent m
