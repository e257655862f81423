use Rattle.rt_track.proofs.Using.{AreFirstUses}
use Rattle.rt_track.proofs.uses.uses.Given as goal

abbrev pub invariant-loop-reg : goal.invariant-loop-reg
invariant-loop-reg l = AreFirstUses l.reach l.ops l.joins.items l.reg l.uses.items
