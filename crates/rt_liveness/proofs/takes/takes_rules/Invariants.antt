use Rattle.std.proofs.Common.{ℕ, ◌<◌}
use Rattle.rt_proc.specs.declared.proc.Proc.{Proc}
use Rattle.rt_body.specs.declared.body.Body.{Body}
use Rattle.rt_body.specs.Told.{reading_of}
use Rattle.rt_liveness.specs.Inside.Additions.{Adds}
use Rattle.rt_liveness.specs.Inside.GivesRules.{IsProcedure}
use Rattle.rt_liveness.specs.Inside.TakesRules.{AreTakesRules}
use Rattle.rt_liveness.proofs.takes.takes_rules.Given as goal

abbrev pub invariant-loop-number : goal.invariant-loop-number
invariant-loop-number l =
    Adds l.initial.rules l.rules
    (λ rule. (q : ℕ) × (q < l.number) × ((proc : Proc) × (body : Body) × IsProcedure l.procs l.bodies q proc body × AreTakesRules l.given.keys l.named proc.sites (reading_of body).reaching q rule))
