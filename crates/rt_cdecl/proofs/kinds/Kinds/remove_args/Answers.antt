use Rattle.rt_cdecl.proofs.Left.{args_less, args_gone}
use Rattle.rt_cdecl.proofs.kinds.Kinds.remove_args.Goals as goal

pub loop-kind-preserved : goal.loop-kind-preserved
loop-kind-preserved c = args_less c.args.args.now c.loop-kind.kind-index _ c.args.self.now c.loop-kind.self c.remove.new.self c.loop-kind-test.true c.loop-kind-item.is c.loop-kind.invariant c.remove.ensures

pub returns : goal.returns
returns c = args_gone c.args.args.now c.loop-kind.kind-index c.args.self.now c.loop-kind.self c.loop-kind-test.false c.loop-kind.invariant
