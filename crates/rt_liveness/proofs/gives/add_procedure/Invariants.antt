use Rattle.std.proofs.Common.{◌≡◌, ℕ, ◌<◌, slice_get, Some}
use Rattle.rt_body.specs.Told.{reading_of}
use Rattle.rt_proc.specs.declared.site.Site.{Site}
use Rattle.rt_liveness.specs.Inside.Additions.{Adds}
use Rattle.rt_liveness.specs.Inside.GivesRules.{AreSiteRules}
use Rattle.rt_liveness.proofs.gives.add_procedure.Given as goal

abbrev pub invariant-loop-site : goal.invariant-loop-site
invariant-loop-site l =
    Adds l.initial.rules l.rules
    (λ rule. (s : ℕ) × (s < l.site) × ((site : Site) × (slice_get l.procedure.sites.now s ≡ Some site) × AreSiteRules l.named l.procedure.sites.now (reading_of l.procedure.body.now).reaching l.procedure.number s site rule))
