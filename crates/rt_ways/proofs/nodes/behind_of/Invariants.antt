use Rattle.rt_ways.specs.Inside.Frames.{AreBehind}
use Rattle.rt_ways.proofs.nodes.behind_of.Given as goal

abbrev pub invariant-loop-number : goal.invariant-loop-number
invariant-loop-number l = AreBehind l.named l.groups l.number l.behind.entries
