use Rattle.std.proofs.Common.{◌≡◌, take}
use Rattle.rt_sat.proofs.weights.copied.Given as goal

abbrev pub invariant-loop-x : goal.invariant-loop-x
invariant-loop-x l = l.copied.items ≡ take l.x-index l.variables
