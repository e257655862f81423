use Rattle.std.proofs.Common.{ℕ, ◌+◌, ◌<◌}
use Rattle.rt_body.specs.Told.{reading_of}
use Rattle.rt_liveness.specs.Inside.Additions.{Adds}
use Rattle.rt_liveness.specs.Inside.GivesRules.{AreWriterRules}
use Rattle.rt_liveness.proofs.gives.add_return.Given as goal

abbrev pub invariant-loop-r : goal.invariant-loop-r
invariant-loop-r l = Adds l.initial.rules l.rules (λ rule. (r : ℕ) × (r < l.r) × AreWriterRules l.named l.procedure.sites.now l.procedure.number r ((reading_of l.procedure.body.now).reaching l.site (10 + r)) rule)
