use Rattle.std.proofs.Common.{◌≡◌, ◌<◌, ◌≤◌, refl, ap, length, arith}
use Rattle.std.proofs.lemmas.List.{take_more, length-take-le}
use Rattle.std.proofs.Math.Seq.{take-length}
use Rattle.rt_lines.proofs.NameLists.{AreNames-push}
use Rattle.rt_lattice.proofs.Spelled.{AreNames-none, are_names-not, names_fault-bad, names_fault-none}
use Rattle.rt_lattice.proofs.spelling.names_of.Goals as goal

pub loop-string-init : goal.loop-string-init
loop-string-init c = record { items = c.new-names.ensures; good = rw c.new-names.ensures AreNames-none }

pub loop-string-preserved : goal.loop-string-preserved
loop-string-preserved c =
    let i = c.loop-string.string-index in
    let strings = c.args.strings.now in
    let more = take_more strings i c.string-item.result c.loop-string-test.true in
    let follows = c.if-not-may_follow.ensures.0 refl in
    let within : i ≤ length strings = omega arith in
    let room : length c.loop-string.names < 65535 = omega (arith, ap length c.loop-string.invariant.items, length-take-le i strings within) in
    record {
      items = rw (c.in_ok-push.ensures.ok, c.items-name.ensures, c.loop-string.invariant.items, more, ← c.string-item.is) refl;
      good = rw c.in_ok-push.ensures.ok (AreNames-push _ _ c.loop-string.invariant.good follows.0 follows.1 room);
    }

pub returns-then-not-may_follow-clause-fault : goal.returns-then-not-may_follow-clause-fault
returns-then-not-may_follow-clause-fault c =
    rw
    (names_fault-bad c.args.strings.now (omega arith)
    (are_names-not c.args.strings.now c.loop-string.string-index c.string-item.result c.loop-string-test.true c.string-item.is
    (λ both. let h = c.if-not-may_follow.ensures.1 (rw (c.items-name.ensures, c.loop-string.invariant.items) both) in cc)))
    c.shape.ensures

pub returns-clause-none : goal.returns-clause-none
returns-clause-none c =
    let end : c.loop-string.string-index ≡ length c.args.strings.now = omega arith in
    names_fault-none c.args.strings.now (omega arith) (rw (c.loop-string.invariant.items, end, take-length) at c.loop-string.invariant.good)
