use Rattle.std.proofs.Common.{◌≡◌, ℕ, ◌<◌, true, Some}
use Rattle.std.specs.Prelude.{slice_get}
use Rattle.rt_outline.specs.Frames.{IsFrame}
use Rattle.rt_outline.specs.Hubs.{AreHubs, HasHubAt, IsGrownBy}
use Rattle.rt_outline.proofs.hubs.enter_hubs.Given as goal

abbrev pub invariant-loop-node : goal.invariant-loop-node
invariant-loop-node l = record {
  frame : IsFrame l.frame.origins.items l.frame.steps l.frame.arcs.items l.frame.back.items;
  more : IsGrownBy l.fn.frame.origins.items l.fn.frame.arcs.items l.frame.origins.items l.frame.arcs.items;
  hubs : AreHubs l.frame.origins.items l.hubs.entries;
  joined : (n : ℕ) → n < l.node → slice_get l.flips n ≡ Some true → HasHubAt l.frame.origins.items l.frame.arcs.items l.classes l.flips l.hubs.entries n;
}
