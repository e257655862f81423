use Rattle.std.proofs.Common.{◌≡◌, true, ℕ, Contains, Some, take}
use Rattle.rt_lines.specs.declared.label.Label.{Label as Letter}
use Rattle.rt_outline.specs.Arcs.{Leads}
use Rattle.rt_outline.specs.Frames.{IsMade}
use Rattle.rt_outline.specs.Turning.{class_at, AreTold}
use Rattle.rt_outline.proofs.turning.is_told_with_all.Given as goal

abbrev pub invariant-loop-other : goal.invariant-loop-other
invariant-loop-other l = (w : ℕ) → Contains (take l.other-index l.other-items) w → (q : ℕ) (m : Letter) → IsMade l.frame.origins.items w q m →
    class_at l.sorts.classes.items q ≡ Some l.class →
    AreTold l.frame.origins.items (Leads l.frame.arcs.items l.stands true) l.sorts.flips.items l.parent q l.label m l.node w
