use Rattle.std.proofs.Common.{◌||◌, ap, ◌∙◌}
use Rattle.std.proofs.lemmas.Result.{on_ok_weaker}
use Rattle.rt_liveness.specs.Inside.Conditions.{is_among, port_of, returns_real, when_true}
use Rattle.rt_liveness.specs.Reads.{reads_of}
use Rattle.rt_liveness.proofs.Rules.{pushed_rule}
use Rattle.rt_liveness.proofs.takes.add_read.Goals as goal

pub returns : goal.returns
returns c =
    let p = c.args.procedure.now in
    let kind = c.args.kind in
    let register = c.args.register in
    on_ok_weaker c.push.result
    (λ is. pushed_rule c.args.rules.now c.push.new.self c.when_true.result (when_true (is_among (reads_of kind) register || returns_real c.args.given.now.keys c.args.named.now p.sites.now kind register c.args.defs.now))
    (port_of p.number register) is (c.when_true.ensures ∙ ap when_true c.is_read-is_read.ensures))
    c.push.ensures.ok
