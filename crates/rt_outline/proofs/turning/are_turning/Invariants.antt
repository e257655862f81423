use Rattle.std.proofs.Common.{true, ℕ, ◌<◌, length}
use Rattle.rt_outline.specs.Arcs.{Leads}
use Rattle.rt_outline.specs.Turning.{IsToldAt}
use Rattle.rt_outline.specs.Inside.Sides.{AreWhole}
use Rattle.rt_outline.proofs.turning.are_turning.Given as goal

abbrev pub invariant-loop-node : goal.invariant-loop-node
invariant-loop-node l = record {
  known : AreWhole l.frame.origins.items (Leads l.frame.arcs.items l.stands true) l.known.items;
  told : (v : ℕ) → v < l.node → IsToldAt l.frame.origins.items (Leads l.frame.arcs.items l.stands true)
      l.sorts.classes.items l.sorts.flips.items l.sorts.marks.items (length l.sorts.classes.items) v;
}
