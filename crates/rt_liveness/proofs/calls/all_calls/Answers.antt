use Rattle.std.proofs.Common.{◌<◌, List, length, get_or, subst, arith}
use Rattle.std.proofs.lemmas.Option.{slice_get-get_or}
use Rattle.rt_proc.specs.declared.site.Site.{Site}
use Rattle.rt_body.specs.Told.{reading_of}
use Rattle.rt_liveness.specs.Inside.Found.{IsProcFound, AreCallsFoundIn}
use Rattle.rt_liveness.proofs.Adding.{read_at}
use Rattle.rt_liveness.proofs.Pairing.{next_pair}
use Rattle.rt_liveness.proofs.calls.all_calls.Goals as goal

pub loop-number-preserved : goal.loop-number-preserved
loop-number-preserved c =
    let procs = c.args.procs.now in
    let bodies = c.args.bodies.now in
    let q = c.loop-number.number in
    let proc = get_or procs q c.index-procs-number.result in
    let body = c.index-bodies-number.result in
    let less : q < length procs = omega arith in
    let less' : q < length bodies = omega arith in
    let at = slice_get-get_or procs q c.index-procs-number.result less in
    next_pair (IsProcFound c.args.object.now c.args.interface.now procs bodies) procs q c.loop-number.calls c.push.new.self c.in_ok-calls_in.field-0 c.in_ok-push.ensures.ok proc at c.loop-number.invariant
    (record {
      body = body;
      is_procedure = record { is_proc = at; is_body = read_at bodies q body less' c.index-bodies-number.is };
      calls_in = subst (λ (sites : List Site). AreCallsFoundIn c.args.object.now c.args.interface.now sites (reading_of body).reaching c.in_ok-calls_in.field-0) c.items.ensures c.in_ok-calls_in.ensures;
    })
