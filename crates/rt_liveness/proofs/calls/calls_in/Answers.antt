use Rattle.std.proofs.Common.{◌<◌, length, get_or, arith}
use Rattle.std.proofs.lemmas.Option.{slice_get-get_or}
use Rattle.rt_body.specs.Told.{reading_of}
use Rattle.rt_liveness.specs.Inside.Found.{IsSiteFound}
use Rattle.rt_liveness.proofs.Pairing.{next_pair}
use Rattle.rt_liveness.proofs.calls.calls_in.Goals as goal

pub loop-number-preserved : goal.loop-number-preserved
loop-number-preserved c =
    let p = c.args.procedure.now in
    let s = c.loop-number.number in
    let site = get_or p.sites.now s c.index-procedure-number.result in
    let less : s < length p.sites.now = omega arith in
    next_pair (IsSiteFound c.args.object.now c.args.interface.now p.sites.now (reading_of p.body.now).reaching) p.sites.now s c.loop-number.calls c.push.new.self c.in_ok-calls_at.field-0 c.in_ok-push.ensures.ok
    site (slice_get-get_or p.sites.now s c.index-procedure-number.result less) c.loop-number.invariant
    (record { plain = c.is_plain_jump-is_plain.result; is_plain = c.is_plain_jump-is_plain.ensures; calls_at = c.in_ok-calls_at.ensures })
