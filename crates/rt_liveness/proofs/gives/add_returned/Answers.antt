use Rattle.std.proofs.Common.{◌≡◌, true, sym, ◌∙◌, ap}
use Rattle.std.proofs.lemmas.Bool.{true≢false}
use Rattle.std.proofs.lemmas.Result.{on_ok_weaker}
use Rattle.rt_body.specs.Told.{reading_of}
use Rattle.rt_liveness.specs.Inside.Conditions.{is_return}
use Rattle.rt_liveness.specs.Inside.GivesRules.{AreReturnRules, AreReturnedRules}
use Rattle.rt_liveness.proofs.Adding.{alike, nothing}
use Rattle.rt_liveness.proofs.Meeting.{return_kind}
use Rattle.rt_liveness.proofs.gives.add_returned.Goals as goal

pub returns-then-is_return : goal.returns-then-is_return
returns-then-is_return c =
    let p = c.args.procedure.now in
    let reaching = (reading_of p.body.now).reaching in
    let old = c.args.rules.now in
    let new = c.add_return.new.rules in
    let is = return_kind c.args.kind (sym c.is_return.ensures ∙ c.if-is_return.true) in
    on_ok_weaker c.add_return.result
    (alike old new (AreReturnRules c.args.named.now p.sites.now reaching p.number c.args.site) (AreReturnedRules c.args.named.now p.sites.now reaching p.number c.args.site c.args.kind) (λ rule. ((λ h. (is, h)), λ h. h.1)))
    c.add_return.ensures

pub returns-else-is_return : goal.returns-else-is_return
returns-else-is_return c =
    let p = c.args.procedure.now in
    nothing c.args.rules.now (AreReturnedRules c.args.named.now p.sites.now (reading_of p.body.now).reaching p.number c.args.site c.args.kind)
    (λ rule h. true≢false (sym (c.is_return.ensures ∙ ap is_return h.0) ∙ c.if-is_return.false))
