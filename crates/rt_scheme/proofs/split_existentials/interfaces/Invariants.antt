use Rattle.std.proofs.Common.{◌≡◌, take}
use Rattle.rt_scheme.specs.SplitExistentials.{other_interfaces}
use Rattle.rt_scheme.proofs.split_existentials.interfaces.Given as goal

abbrev pub invariant-loop-line : goal.invariant-loop-line
invariant-loop-line l = l.found.keys ≡ other_interfaces l.own (take l.line-index l.lines)
