use Rattle.std.proofs.Common.{◌≡◌}
use Rattle.rt_plan.proofs.tests.turns.Given as goal

abbrev pub invariant-loop-turn : goal.invariant-loop-turn
invariant-loop-turn l = l.board.workers ≡ 4
