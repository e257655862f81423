use Rattle.rt_table.proofs.Looking.{members-more}
use Rattle.rt_table.proofs.lists.members_of.Goals as goal

pub loop-number-preserved : goal.loop-number-preserved
loop-number-preserved c =
    members-more c.loop-number.members.keys c.insert.new.self.keys c.args.group.now c.loop-number.number-index c.loop-number-test.true c.in_ok-insert.ensures.updates.0
    c.loop-number.invariant
