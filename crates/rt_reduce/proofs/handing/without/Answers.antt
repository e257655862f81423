use Rattle.rt_reduce.proofs.Handed.{new_all, new_stood}
use Rattle.rt_reduce.proofs.handing.without.Goals as goal

pub returns-clause-stood : goal.returns-clause-stood
returns-clause-stood c =
    new_stood c.args.set.now.keys c.args.lines.now c.loop-line.line-index c.loop-line.others.items c.loop-line-test.false
    c.loop-line.invariant

pub returns-clause-all : goal.returns-clause-all
returns-clause-all c =
    new_all c.args.set.now.keys c.args.lines.now c.loop-line.line-index c.loop-line.others.items c.loop-line-test.false
    c.loop-line.invariant
