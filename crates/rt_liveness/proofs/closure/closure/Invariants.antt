use Rattle.std.proofs.Common.{◌-◌}
use Rattle.rt_liveness.proofs.Following.{IsFollowing}
use Rattle.rt_liveness.proofs.closure.closure.Given as goal

abbrev pub invariant-loop-index : goal.invariant-loop-index
invariant-loop-index l = IsFollowing l.rules l.found.keys l.index

abbrev pub decreases-loop-index : goal.decreases-loop-index
decreases-loop-index l = 9223372036854775808 - l.index
