use Rattle.std.proofs.Common.{take}
use Rattle.rt_header.specs.Inside.Ports.{AreArguments}
use Rattle.rt_header.proofs.ports.arguments.Given as goal

abbrev pub invariant-loop-label : goal.invariant-loop-label
invariant-loop-label l = AreArguments (take l.label-index l.edges) l.nodes.items
