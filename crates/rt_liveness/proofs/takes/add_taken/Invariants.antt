use Rattle.std.proofs.Common.{◌≡◌}
use Rattle.rt_liveness.specs.Inside.Additions.{Adds}
use Rattle.rt_liveness.specs.Inside.Conditions.{port_of, when_taken}
use Rattle.rt_liveness.proofs.Adding.{ForFirst}
use Rattle.rt_liveness.proofs.takes.add_taken.Given as goal

abbrev pub invariant-loop-callee : goal.invariant-loop-callee
invariant-loop-callee l =
    Adds l.initial.rules l.rules
    (ForFirst l.callees (λ callee rule. rule ≡ record { when = when_taken l.named l.procedure.sites.now l.defs callee l.register; port = port_of l.procedure.number l.register }) l.callee-index)
