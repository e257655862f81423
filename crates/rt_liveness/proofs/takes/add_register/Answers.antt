use Rattle.std.proofs.Common.{◌≡◌, ◌⊎◌, true}
use Rattle.std.proofs.lemmas.Result.{on_ok_weaker}
use Rattle.rt_liveness.specs.Inside.Conditions.{begins_with_entry}
use Rattle.rt_liveness.specs.Inside.TakesRules.{IsReadRule, AreTakenRules, AreRegisterRules}
use Rattle.rt_liveness.proofs.Adding.{alike, both}
use Rattle.rt_liveness.proofs.takes.add_register.Goals as goal

pub returns : goal.returns
returns c =
    let p = c.args.procedure.now in
    let named = c.args.named.now in
    let given = c.args.given.now.keys in
    let defs = c.args.defs.now in
    let register = c.args.register in
    let kind = c.args.kind in
    let callees = c.args.callees.now in
    let first = c.args.rules.now in
    let mid = c.add_read.new.rules in
    let new = c.add_taken.new.rules in
    let begins : begins_with_entry defs ≡ true = cc in
    on_ok_weaker c.add_taken.result
    (λ step. alike first new (λ rule. IsReadRule given named p.sites.now p.number kind register defs rule ⊎ AreTakenRules named p.sites.now p.number callees register defs rule)
    (AreRegisterRules given named p.sites.now p.number kind callees register defs) (λ rule. ((λ h. (begins, h)), λ h. h.1))
    (both first mid new (IsReadRule given named p.sites.now p.number kind register defs) (AreTakenRules named p.sites.now p.number callees register defs) c.in_ok-add_read.ensures step))
    c.add_taken.ensures
