use Rattle.std.proofs.Common.{List, ◌+◌, subst, arith}
use Rattle.rt_flow.specs.declared.def.Def.{Def}
use Rattle.rt_body.specs.Told.{reading_of}
use Rattle.rt_liveness.specs.Inside.Additions.{Adds}
use Rattle.rt_liveness.specs.Inside.GivesRules.{AreWriterRules}
use Rattle.rt_liveness.proofs.Adding.{one_more, up_to}
use Rattle.rt_liveness.proofs.gives.add_return.Goals as goal

pub loop-r-preserved : goal.loop-r-preserved
loop-r-preserved c =
    let p = c.args.procedure.now in
    let r = c.loop-r.r in
    let old = c.loop-r.rules in
    let new = c.add_writers.new.rules in
    one_more c.args.rules.now old new (λ k. AreWriterRules c.args.named.now p.sites.now p.number k ((reading_of p.body.now).reaching c.args.site (10 + k))) r c.loop-r.invariant
    (subst (λ (defs : List Def). Adds old new (AreWriterRules c.args.named.now p.sites.now p.number r defs)) c.reaching-defs.ensures.value c.in_ok-add_writers.ensures)

pub returns : goal.returns
returns c =
    let p = c.args.procedure.now in
    up_to (λ k. AreWriterRules c.args.named.now p.sites.now p.number k ((reading_of p.body.now).reaching c.args.site (10 + k))) c.args.rules.now c.loop-r.rules c.loop-r.r 2 (omega arith) c.loop-r.invariant
