use Rattle.std.proofs.Common.{◌≡◌}
use Rattle.std.proofs.lemmas.Option.{slice_get-get_or}
use Rattle.rt_liveness.specs.Inside.Conditions.{port_of, when_taken}
use Rattle.rt_liveness.specs.declared.rule.Rule.{Rule}
use Rattle.rt_liveness.proofs.Adding.{next_item, all_items}
use Rattle.rt_liveness.proofs.Rules.{pushed_rule}
use Rattle.rt_liveness.proofs.takes.add_taken.Goals as goal

pub loop-callee-preserved : goal.loop-callee-preserved
loop-callee-preserved c =
    let p = c.args.procedure.now in
    let callees = c.args.callees.now in
    let register = c.args.register in
    let old = c.loop-callee.rules in
    let new = c.push.new.self in
    next_item callees (λ callee (rule : Rule). rule ≡ record { when = when_taken c.args.named.now p.sites.now c.args.defs.now callee register; port = port_of p.number register }) c.args.rules.now old new c.loop-callee.callee-index _
    (slice_get-get_or callees c.loop-callee.callee-index _ c.loop-callee-test.true) c.loop-callee.invariant
    (pushed_rule old new c.when_taken.result _ (port_of p.number register) c.in_ok-push.ensures.ok c.when_taken.ensures)

pub returns : goal.returns
returns c =
    let p = c.args.procedure.now in
    all_items c.args.callees.now (λ callee (rule : Rule). rule ≡ record { when = when_taken c.args.named.now p.sites.now c.args.defs.now callee c.args.register; port = port_of p.number c.args.register })
    c.args.rules.now c.loop-callee.rules c.loop-callee.callee-index c.loop-callee-test.false c.loop-callee.invariant
