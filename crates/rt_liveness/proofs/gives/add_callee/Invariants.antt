use Rattle.std.proofs.Common.{◌≡◌, ℕ, ◌+◌, ◌<◌}
use Rattle.rt_liveness.specs.Inside.Additions.{Adds}
use Rattle.rt_liveness.specs.Inside.Conditions.{port_of, when_given}
use Rattle.rt_liveness.proofs.gives.add_callee.Given as goal

abbrev pub invariant-loop-r : goal.invariant-loop-r
invariant-loop-r l = Adds l.initial.rules l.rules (λ rule. (r : ℕ) × (r < l.r) × (rule ≡ record { when = when_given l.named l.callee r; port = port_of l.procedure (10 + r) }))
