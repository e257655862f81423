use Rattle.std.proofs.Common.{◌+◌, sym, subst}
use Rattle.rt_settle.proofs.Grouping.{AreSchemesBelow, scheme_more}
use Rattle.rt_settle.proofs.group.schemes_for.Goals as goal

pub loop-member-preserved : goal.loop-member-preserved
loop-member-preserved c =
    subst (AreSchemesBelow c.args.order.now (c.loop-member.member-index + 1) c.args.members.now c.args.settled.now)
    (sym c.in_ok-push.ensures.items)
    (scheme_more c.args.order.now c.loop-member.member-index c.args.members.now c.args.settled.now c.loop-member.schemes.items
    c.in_ok-scheme_for.field-0 c.loop-member.invariant c.in_ok-scheme_for.ensures)
