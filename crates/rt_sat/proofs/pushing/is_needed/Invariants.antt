use Rattle.std.proofs.Common.{ℕ, ◌<◌, get_or}
use Rattle.rt_lines.specs.declared.label.Label.{Label}
use Rattle.rt_sat.specs.Pushes.{IsNeeding}
use Rattle.rt_sat.proofs.pushing.is_needed.Given as goal

abbrev pub invariant-loop-child : goal.invariant-loop-child
invariant-loop-child l =
    (i : ℕ) → i < l.child-index → (m : Label) → IsNeeding l.frame.named l.frame.flips.items l.frame.matters.items l.bound l.parent (get_or l.child-items i 0) m → ⊥
