use Rattle.std.proofs.Common.{◌≡◌, ℕ, true, take}
use Rattle.rt_outline.specs.Hubs.{HasAccess}
use Rattle.rt_outline.proofs.Sided.{AreThose}
use Rattle.rt_outline.proofs.turning.accessed.Given as goal

abbrev pub invariant-loop-node : goal.invariant-loop-node
invariant-loop-node l = AreThose (λ (w : ℕ). l.access ≡ true → HasAccess l.frame.origins.items w) (take l.node-index l.node-items) l.found
