use Rattle.std.proofs.Common.{ap, ◌+◌, rules}
use Rattle.rt_cdecl.proofs.Drafting.{risen_more}
use Rattle.rt_cdecl.proofs.listed.AscendingFunctions.push.Goals as goal

pub invariant_of-self-2 : goal.invariant_of-self-2
invariant_of-self-2 c = (risen_more c.self.inside.list c.push.new.self c.args.function _ c.in_ok-push.ensures.ok (ap (λ n. n + 1) c.from-least.ensures), search rules)
