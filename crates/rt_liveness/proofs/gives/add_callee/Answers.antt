use Rattle.std.proofs.Common.{◌≡◌, ◌+◌, arith}
use Rattle.rt_liveness.specs.Inside.Conditions.{port_of, when_given}
use Rattle.rt_liveness.specs.declared.rule.Rule.{Rule}
use Rattle.rt_liveness.proofs.Adding.{one_more, up_to}
use Rattle.rt_liveness.proofs.Rules.{pushed_rule}
use Rattle.rt_liveness.proofs.gives.add_callee.Goals as goal

pub loop-r-preserved : goal.loop-r-preserved
loop-r-preserved c =
    let q = c.args.procedure in
    let r = c.loop-r.r in
    let old = c.loop-r.rules in
    let new = c.push.new.self in
    one_more c.args.rules.now old new (λ k rule. rule ≡ record { when = when_given c.args.named.now c.args.callee k; port = port_of q (10 + k) }) r c.loop-r.invariant
    (pushed_rule old new c.when_given.result (when_given c.args.named.now c.args.callee r) (port_of q (10 + r)) c.in_ok-push.ensures.ok c.when_given.ensures)

pub returns : goal.returns
returns c =
    up_to (λ k (rule : Rule). rule ≡ record { when = when_given c.args.named.now c.args.callee k; port = port_of c.args.procedure (10 + k) }) c.args.rules.now c.loop-r.rules c.loop-r.r 2 (omega arith) c.loop-r.invariant
