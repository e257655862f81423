use Rattle.rt_reduce.proofs.Apart.{added_both, added_one}
use Rattle.rt_reduce.proofs.parting.add.Goals as goal

pub returns-then-are_one : goal.returns-then-are_one
returns-then-are_one c =
    added_one c.args.left c.args.right c.args.are_one c.args.joins.now.items c.push.new.self.items c.in_ok-push.ensures.items

pub returns : goal.returns
returns c =
    added_both c.args.left c.args.right c.args.are_one c.args.joins.now.items c.push-2.new.self.items c.push-3.new.self.items
    c.if-are_one.false c.in_ok-push-2.ensures.items c.in_ok-push-3.ensures.items
