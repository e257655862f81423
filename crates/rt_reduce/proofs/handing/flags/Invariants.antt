use Rattle.std.proofs.Common.{◌≡◌, map, take}
use Rattle.rt_reduce.proofs.Handed.{is_known}
use Rattle.rt_reduce.proofs.handing.flags.Given as goal

abbrev pub invariant-loop-line : goal.invariant-loop-line
invariant-loop-line l = l.flags.items ≡ map (is_known l.set.keys) (take l.line-index l.lines)
