use Rattle.std.proofs.Common.{ℕ, Option}
use Rattle.rt_outline.specs.Arcs.{HasArc}
use Rattle.rt_outline.specs.Frames.{AreOriginsTo, IsFrame}
use Rattle.rt_outline.proofs.frame.Frame.of.Given as goal

abbrev pub invariant-loop-number : goal.invariant-loop-number
invariant-loop-number l = record {
  frame : IsFrame l.frame.origins.items l.frame.steps l.frame.arcs.items l.frame.back.items;
  origins : AreOriginsTo l.named l.number l.frame.origins.items;
  none : (v w : ℕ) (line : Option ℕ) → HasArc l.frame.arcs.items v w line → ⊥;
}
