use Rattle.std.proofs.Common.{◌+◌}
use Rattle.std.proofs.lemmas.Result.{on_ok_weaker}
use Rattle.rt_liveness.specs.Inside.Conditions.{port_of, when_written}
use Rattle.rt_liveness.proofs.Adding.{read_at}
use Rattle.rt_liveness.proofs.Rules.{pushed_rule, writer_rule, no_writer}
use Rattle.rt_liveness.proofs.gives.add_writer.Goals as goal

pub returns-in-Some : goal.returns-in-Some
returns-in-Some c =
    let p = c.args.procedure.now in
    let named = c.args.named.now in
    let r = c.args.r in
    let writer = c.in-Some.writer.now in
    let found = c.in-Some.ensures.lookup in
    let old = c.args.rules.now in
    let new = c.push.new.self in
    on_ok_weaker c.push.result
    (λ is. writer_rule named p.sites.now p.number r c.in-At.site c.args.def c.in-At.is writer (read_at p.sites.now c.in-At.site writer found.3.0 found.1) old new
    (pushed_rule old new c.when_written.result (when_written named writer.kind r) (port_of p.number (10 + r)) is c.when_written.ensures))
    c.push.ensures.ok

pub returns-in-None : goal.returns-in-None
returns-in-None c =
    let p = c.args.procedure.now in
    no_writer c.args.named.now p.sites.now p.number c.args.r c.in-At.site c.args.def c.in-At.is c.args.rules.now c.in-None.ensures.lookup.3
