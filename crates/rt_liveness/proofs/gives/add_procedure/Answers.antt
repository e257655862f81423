use Rattle.std.proofs.Common.{◌≡◌, ◌<◌, ℕ, length, get_or, slice_get, Some, arith}
use Rattle.std.proofs.lemmas.Option.{slice_get-get_or}
use Rattle.rt_proc.specs.declared.site.Site.{Site}
use Rattle.rt_body.specs.Told.{reading_of}
use Rattle.rt_liveness.specs.declared.rule.Rule.{Rule}
use Rattle.rt_liveness.specs.Inside.GivesRules.{AreSiteRules}
use Rattle.rt_liveness.proofs.Adding.{at_place, one_more, up_to}
use Rattle.rt_liveness.proofs.gives.add_procedure.Goals as goal

pub loop-site-preserved : goal.loop-site-preserved
loop-site-preserved c =
    let p = c.args.procedure.now in
    let sites = p.sites.now in
    let reaching = (reading_of p.body.now).reaching in
    let s = c.loop-site.site in
    let old = c.loop-site.rules in
    let new = c.add_site.new.rules in
    let less : s < length sites = omega arith in
    one_more c.args.rules.now old new (λ k rule. (site : Site) × (slice_get sites k ≡ Some site) × AreSiteRules c.args.named.now sites reaching p.number k site rule) s c.loop-site.invariant
    (at_place sites s (get_or sites s c.index-procedure-site.result) (AreSiteRules c.args.named.now sites reaching p.number s) old new (slice_get-get_or sites s c.index-procedure-site.result less) c.in_ok-add_site.ensures)

pub returns : goal.returns
returns c =
    let p = c.args.procedure.now in
    let sites = p.sites.now in
    let reaching = (reading_of p.body.now).reaching in
    up_to (λ k (rule : Rule). (site : Site) × (slice_get sites k ≡ Some site) × AreSiteRules c.args.named.now sites reaching p.number k site rule) c.args.rules.now c.loop-site.rules c.loop-site.site (length sites) (omega arith) c.loop-site.invariant
