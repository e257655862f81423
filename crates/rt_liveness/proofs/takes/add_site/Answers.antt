use Rattle.std.proofs.Common.{List, ◌+◌, ◌∙◌, subst, arith}
use Rattle.rt_flow.specs.declared.def.Def.{Def}
use Rattle.rt_proc.specs.declared.site.Callee.{Callee}
use Rattle.rt_body.specs.Told.{reading_of}
use Rattle.rt_liveness.specs.Inside.Additions.{Adds}
use Rattle.rt_liveness.specs.Programs.{callees_of}
use Rattle.rt_liveness.specs.Inside.TakesRules.{AreRegisterRules}
use Rattle.rt_liveness.proofs.Adding.{one_more, up_to}
use Rattle.rt_liveness.proofs.takes.add_site.Goals as goal

pub loop-n-preserved : goal.loop-n-preserved
loop-n-preserved c =
    let p = c.args.procedure.now in
    let named = c.args.named.now in
    let given = c.args.given.now.keys in
    let site = c.args.site.now in
    let n = c.loop-n.n in
    let old = c.loop-n.rules in
    let new = c.add_register.new.rules in
    one_more c.args.rules.now old new (λ k. AreRegisterRules given named p.sites.now p.number site.kind (callees_of site) (10 + k) ((reading_of p.body.now).reaching c.args.number (10 + k))) n c.loop-n.invariant
    (subst (λ (callees : List Callee). Adds old new (AreRegisterRules given named p.sites.now p.number site.kind callees (10 + n) ((reading_of p.body.now).reaching c.args.number (10 + n)))) (c.items.ensures ∙ c.in_ok-callees.ensures)
    (subst (λ (defs : List Def). Adds old new (AreRegisterRules given named p.sites.now p.number site.kind c.items.result.now (10 + n) defs)) c.reaching-defs.ensures.value c.in_ok-add_register.ensures))

pub returns : goal.returns
returns c =
    let p = c.args.procedure.now in
    let named = c.args.named.now in
    let given = c.args.given.now.keys in
    let site = c.args.site.now in
    up_to (λ k. AreRegisterRules given named p.sites.now p.number site.kind (callees_of site) (10 + k) ((reading_of p.body.now).reaching c.args.number (10 + k))) c.args.rules.now c.loop-n.rules c.loop-n.n 8 (omega arith) c.loop-n.invariant
