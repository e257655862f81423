use Rattle.rt_cdecl.proofs.KindSets.{listed_more}
use Rattle.rt_cdecl.proofs.listed.Typedefs.with.Goals as goal

pub invariant_of-result : goal.invariant_of-result
invariant_of-result c = listed_more c.self.inside.set c.self.inside.list c.add.new.self c.push.new.self c.args.kind c.requires c.self.invariant c.in_ok-add.ensures c.in_ok-push.ensures.ok
