use Rattle.std.proofs.Common.{◌≡◌, ℕ, ◌<◌, true, Some}
use Rattle.std.specs.Prelude.{slice_get}
use Rattle.rt_outline.specs.Frames.{IsFrame, IsStepped}
use Rattle.rt_outline.specs.Hubs.{HasLowest}
use Rattle.rt_outline.proofs.hubs.enter_lowest.Given as goal

abbrev pub invariant-loop-node : goal.invariant-loop-node
invariant-loop-node l = record {
  frame : IsFrame l.frame.origins.items l.frame.steps l.frame.arcs.items l.frame.back.items;
  more : IsStepped l.fn.frame.origins.items l.fn.frame.arcs.items l.frame.origins.items l.frame.arcs.items;
  all : (n : ℕ) → n < l.node → slice_get l.flips n ≡ Some true → HasLowest l.frame.origins.items l.frame.arcs.items n;
}
