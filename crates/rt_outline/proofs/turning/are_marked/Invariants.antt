use Rattle.std.proofs.Common.{ℕ, ◌<◌}
use Rattle.rt_outline.specs.Turning.{IsMarkedAt}
use Rattle.rt_outline.proofs.turning.are_marked.Given as goal

abbrev pub invariant-loop-node : goal.invariant-loop-node
invariant-loop-node l = (v : ℕ) → v < l.node → IsMarkedAt l.frame.origins.items l.sorts.classes.items l.sorts.flips.items l.sorts.marks.items v
