use Rattle.rt_run.proofs.Reporting.{AreBegun}
use Rattle.rt_run.proofs.entries.entries_of.Given as goal

abbrev pub invariant-loop-place : goal.invariant-loop-place
invariant-loop-place l = AreBegun l.fn.told l.analysis l.place l.entries l.lists.items
