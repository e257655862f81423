use Rattle.std.proofs.Common.{List, subst}
use Rattle.std.proofs.lemmas.Result.{on_ok_weaker}
use Rattle.rt_body.specs.Told.{reading_of}
use Rattle.rt_proc.specs.declared.site.Callee.{Callee}
use Rattle.rt_liveness.specs.Inside.Additions.{Adds}
use Rattle.rt_liveness.specs.Inside.GivesRules.{AreReturnedRules, AreTailRules}
use Rattle.rt_liveness.proofs.Adding.{both}
use Rattle.rt_liveness.proofs.gives.add_site.Goals as goal

pub returns : goal.returns
returns c =
    let p = c.args.procedure.now in
    let named = c.args.named.now in
    let site = c.args.site.now in
    let mid = c.add_returned.new.rules in
    let new = c.add_tails.new.rules in
    on_ok_weaker c.add_tails.result
    (λ step. both c.args.rules.now mid new (AreReturnedRules named p.sites.now (reading_of p.body.now).reaching p.number c.args.number site.kind) (AreTailRules named p.number site.tails) c.in_ok-add_returned.ensures
    (subst (λ (tails : List Callee). Adds mid new (AreTailRules named p.number tails)) c.items.ensures step))
    c.add_tails.ensures
