use Rattle.rt_reduce.proofs.Handed.{flags_known}
use Rattle.rt_reduce.proofs.handing.flags.Goals as goal

pub returns-clause-known : goal.returns-clause-known
returns-clause-known c =
    flags_known c.args.set.now.keys c.args.lines.now c.loop-line.line-index c.loop-line.flags.items c.loop-line-test.false
    c.loop-line.invariant
