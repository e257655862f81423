use Rattle.std.proofs.Common.{◌≤◌, ap, arith, length}
use Rattle.rt_run.proofs.Placing.{filled_whole}
use Rattle.rt_run.proofs.analysis.Analysis.constraints.Goals as goal

pub returns-clause-full : goal.returns-clause-full
returns-clause-full c =
    let all : length c.args.self.now.groups ≤ c.loop-group.group-index = omega (arith, ap length c.items-group-items.ensures, c.loop-group-test.false) in
    filled_whole c.args.self.now c.loop-group.group-index c.loop-group.lists.items c.requires all c.loop-group.invariant
