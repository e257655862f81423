use Rattle.std.proofs.Common.{◌≡◌, None, fold, take}
use Rattle.rt_plan.proofs.Missing.{next_waiting}
use Rattle.rt_plan.proofs.board.Board.missing.Given as goal

abbrev pub invariant-loop-callee : goal.invariant-loop-callee
invariant-loop-callee l = l.least ≡ fold (next_waiting l.self) None (take l.callee-index l.called)
