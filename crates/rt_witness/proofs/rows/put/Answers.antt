use Rattle.std.proofs.Common.{◌≡◌, ◌<◌, length, arith}
use Rattle.std.proofs.lemmas.Grind.{common_steps}
use Rattle.rt_witness.proofs.Numbers.{AreKept-push, HasMore-push}
use Rattle.rt_witness.proofs.rows.put.Goals as goal

pub returns-in_ok-push-clause-kept : goal.returns-in_ok-push-clause-kept
returns-in_ok-push-clause-kept c =
    let e : c.len.result ≡ length c.args.rows.now.items = grind (arith, common_steps) in
    let less : c.args.row < length c.args.rows.now.items = omega (arith, e, c.if-row-len.true) in
    AreKept-push c.args.rows.now.items c.args.row c.args.i c.index_mut.result.now c.push.new.self less c.index_mut.ensures.value
    c.in_ok-push.ensures.ok

pub returns-in_ok-push-clause-more : goal.returns-in_ok-push-clause-more
returns-in_ok-push-clause-more c =
    let e : c.len.result ≡ length c.args.rows.now.items = grind (arith, common_steps) in
    let less : c.args.row < length c.args.rows.now.items = omega (arith, e, c.if-row-len.true) in
    HasMore-push c.args.rows.now.items c.args.row c.args.i c.index_mut.result.now c.push.new.self less c.index_mut.ensures.value
    c.in_ok-push.ensures.ok
