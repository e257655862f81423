use Rattle.std.proofs.Common.{sym}
use Rattle.std.specs.Cmp.{nat_cmp_total}
use Rattle.std.specs.Ordering.{nat_cmp}
use Rattle.std.proofs.lemmas.Map.Lookups.{exact_unsigned}
use Rattle.rt_refine.proofs.Keys.{numbered_before, numbered_now}
use Rattle.rt_refine.proofs.grouping.leader_of.Goals as goal

pub returns-in-Some : goal.returns-in-Some
returns-in-Some c =
    numbered_before nat_cmp nat_cmp_total exact_unsigned c.args.leaders.now c.args.key c.args.existential c.in-Some.leader.now
    (sym c.in-Some.ensures.value)

pub returns : goal.returns
returns c =
    numbered_now nat_cmp nat_cmp_total exact_unsigned c.args.leaders.now c.insert.new.self c.args.key c.args.existential
    (sym c.in_default.ensures.value) c.in_ok-insert.ensures.updates.0
