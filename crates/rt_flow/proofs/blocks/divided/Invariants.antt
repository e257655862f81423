use Rattle.rt_flow.proofs.Dividing.{IsDividing}
use Rattle.rt_flow.proofs.blocks.divided.Given as goal

abbrev pub invariant-loop-site : goal.invariant-loop-site
invariant-loop-site l = IsDividing l.graph l.site l.count l.block.items l.firsts.items
