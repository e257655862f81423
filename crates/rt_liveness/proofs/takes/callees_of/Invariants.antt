use Rattle.std.proofs.Common.{◌≡◌, ◌++◌, take}
use Rattle.rt_liveness.specs.Programs.{called_by}
use Rattle.rt_liveness.proofs.takes.callees_of.Given as goal

abbrev pub invariant-loop-callee : goal.invariant-loop-callee
invariant-loop-callee l = l.callees ≡ called_by l.site.kind ++ take l.callee-index l.site.tails
