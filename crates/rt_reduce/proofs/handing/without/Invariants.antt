use Rattle.std.proofs.Common.{◌≡◌, filter, take}
use Rattle.rt_reduce.proofs.Handed.{is_new}
use Rattle.rt_reduce.proofs.handing.without.Given as goal

abbrev pub invariant-loop-line : goal.invariant-loop-line
invariant-loop-line l = l.others.items ≡ filter (is_new l.set.keys) (take l.line-index l.lines)
