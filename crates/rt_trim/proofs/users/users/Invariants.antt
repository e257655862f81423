use Rattle.rt_trim.specs.Trimming.{AreUsers}
use Rattle.rt_trim.proofs.users.users.Given as goal

abbrev pub invariant-loop-i : goal.invariant-loop-i
invariant-loop-i l = AreUsers l.lines l.i l.users.entries
