use Rattle.std.proofs.Common.{◌+◌}
use Rattle.rt_components.proofs.Closing.{IsClosedTo}
use Rattle.rt_components.proofs.walk.close.Given as goal

abbrev pub invariant-loop-node : goal.invariant-loop-node
invariant-loop-node l = IsClosedTo l.fn.state l.state l.place (l.place + l.node-index) l.class
