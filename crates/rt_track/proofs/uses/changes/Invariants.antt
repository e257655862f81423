use Rattle.rt_track.proofs.Using.{IsChanging}
use Rattle.rt_track.proofs.uses.changes.Given as goal

abbrev pub invariant-loop-site : goal.invariant-loop-site
invariant-loop-site l = IsChanging l.reach l.ops l.reg l.fn.joins.items l.site l.joins.items l.known.items l.changes.items l.last
