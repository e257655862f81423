use Rattle.std.proofs.Common.{◌≡◌, ◌++◌, take}
use Rattle.rt_body.proofs.action.add_all.Given as goal

abbrev pub invariant-loop-register : goal.invariant-loop-register
invariant-loop-register l = l.registers ≡ l.fn.registers ++ take l.register-index l.more
