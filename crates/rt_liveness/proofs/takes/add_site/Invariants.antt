use Rattle.std.proofs.Common.{ℕ, ◌+◌, ◌<◌}
use Rattle.rt_body.specs.Told.{reading_of}
use Rattle.rt_liveness.specs.Inside.Additions.{Adds}
use Rattle.rt_liveness.specs.Programs.{callees_of}
use Rattle.rt_liveness.specs.Inside.TakesRules.{AreRegisterRules}
use Rattle.rt_liveness.proofs.takes.add_site.Given as goal

abbrev pub invariant-loop-n : goal.invariant-loop-n
invariant-loop-n l =
    Adds l.initial.rules l.rules
    (λ rule. (n : ℕ) × (n < l.n) × AreRegisterRules l.given.keys l.named l.procedure.sites.now l.procedure.number l.site.kind (callees_of l.site) (10 + n) ((reading_of l.procedure.body.now).reaching l.number (10 + n)) rule)
