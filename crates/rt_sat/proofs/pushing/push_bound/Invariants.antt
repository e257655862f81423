use Rattle.std.proofs.Common.{◌≡◌, ℕ, ◌<◌, get_or}
use Rattle.rt_lines.specs.declared.label.Label.{Label}
use Rattle.rt_sat.specs.declared.state.State.{State}
use Rattle.rt_sat.specs.Pushes.{IsChildOf, IsClosedIn, IsGrown, IsNeeding, IsPushed, IsStill}
use Rattle.rt_sat.proofs.pushing.push_bound.Given as goal

abbrev pub invariant-loop-child : goal.invariant-loop-child
invariant-loop-child l = record {
  grown : IsGrown (IsPushed l.frame.named l.frame.flips.items l.fn.layers.edges.items) l.fn.layers l.layers;
  done : IsStill l.fn.layers l.layers → (i : ℕ) → i < l.child-index → (child : State) (m : Label) → child.variable ≡ get_or l.child-items i 0 → IsChildOf l.frame.named child l.parent m →
      IsNeeding l.frame.named l.frame.flips.items l.frame.matters.items l.bound l.parent.variable (get_or l.child-items i 0) m →
      IsClosedIn l.frame.named l.frame.flips.items l.frame.matters.items l.fn.layers child l.parent m;
}
